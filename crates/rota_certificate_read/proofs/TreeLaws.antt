-- A tree that a text spells has facts and leaves for the weeks of the scenario, and a number of leaves within its limits.
use Rattle.std.proofs.Common.{◌≡◌, ℕ, zero, suc, ◌+◌, ◌-◌, ◌<◌, ◌≤◌, nat_lt, Bool, true, false, ◌&&◌, if◌then◌else◌}
use Rattle.std.proofs.Common.{List, [], ◌∷◌, ◌++◌, Option, Some, None, Ok, Err, refl, sym, subst, arith}
use Rattle.std.specs.Prelude.{nat_le}
use Rattle.std.specs.List.{AllByRecursion}
use Rattle.std.specs.Option.{option_map_or}
use Rattle.std.specs.Str.{bytes_eq}
use Rattle.std.proofs.lemmas.Bool.{leb-true, ltb-true}
use Rattle.rota_core.specs.Certificates.{IsLeafFor, IsTreeFor}
use Rattle.rota_core.specs.Limits.{max_price}
use Rattle.rota_core.specs.ScenarioTables.{ScenarioTables, numbers_of}
use Rattle.rota_core.specs.Trees.{LeafTables, Tree, leaf_tree, leaves_in, split_tree}
use Rattle.rota_core.specs.declared.fault.Kind.{Kind}
use Rattle.rota_certificate_read.specs.CertificateLayout.{leaf, node_word, surcharge_row, tree_after, tree_within}
use Rattle.rota_certificate_read.specs.FactsLayout.{keyword}
use Rattle.rota_certificate_read.specs.declared.certificate.NodeWord.{NodeWord}
use Rattle.rota_certificate_read.specs.declared.certificate.NodeWord.TheVariants as words
use Rattle.rota_layout.specs.Files.{Fills}
use Rattle.rota_layout.specs.Layout.{Layout, codes, repeat}
use Rattle.rota_layout.specs.Tokens.{Token}
use Rattle.rota_certificate_read.proofs.FactsLaws.{fact-exists}
use Rattle.rota_layout.proofs.ReadingLaws.{all_push, number-within}

-- ---- a leaf

abbrev AreSurcharges : List ℕ → Type 0
AreSurcharges surcharges = AllByRecursion (λ surcharge. surcharge ≤ max_price) surcharges

surcharge_rows-keep : (n : ℕ) (surcharges : List ℕ) (front : List Token) (last : List ℕ) →
    Fills (repeat n surcharge_row surcharges) front last → AreSurcharges surcharges → AreSurcharges last
unfolding Fills repeat surcharge_row
surcharge_rows-keep zero surcharges front last h k = rw h.1 k
surcharge_rows-keep (suc n) surcharges front last h k =
    let row = h.4 in
    let kept = all_push (λ surcharge. surcharge ≤ max_price) surcharges row.0 k (number-within 0 max_price row.1 row.0 row.4).1 in
    surcharge_rows-keep n h.0 h.2 last h.5 (subst AreSurcharges (sym row.5.1) kept)

leaf-is : (prices : ℕ) (front : List Token) (one : LeafTables) → 1 ≤ prices → Fills (leaf prices) front one → IsLeafFor prices one
unfolding Fills leaf
leaf-is prices front one some h =
    -- the number of the prices, the number of surcharges, the surcharges
    let within = number-within 0 (prices - 1) h.1 h.0 h.4 in
    let surcharges = h.5.5 in
    rw surcharges.5.1 (record {
      number = omega (arith, some, within.1);
      surcharges = surcharge_rows-keep _ [] surcharges.1 surcharges.0 surcharges.4 tt;
    })

-- ---- the word that a tree begins with

-- a word that fits has its meaning
meant : {V : Type 0} (meaning : Option V) (kind : Kind) (value : V) → option_map_or (λ v. Ok v) meaning (Err kind) ≡ Ok value → meaning ≡ Some value
meant None kind value h = absurd (cc)
meant (Some v) kind value h = cc

keyword-means : {V : Type 0} (meaning : List ℕ → Option V) (front : List Token) (value : V) → Fills (keyword meaning) front value →
    (word : List ℕ) × (meaning word ≡ Some value)
unfolding Fills keyword
keyword-means meaning front value h = (h.0.word, meant (meaning h.0.word) _ value h.2)

-- the node that a word begins: whether it is the word of a split, a split may follow, it is the word of a leaf, and a leaf may follow
abbrev node_or_none : (is_split may_split is_leaf may_end : Bool) → Option NodeWord
node_or_none is_split may_split is_leaf may_end =
    if is_split && may_split then Some words.Split else (if is_leaf && may_end then Some words.Leaf else None)

split-may : (a b c d : Bool) → node_or_none a b c d ≡ Some words.Split → b ≡ true
split-may true true c d h = refl
split-may true false true true h = absurd (cc)
split-may true false true false h = absurd (cc)
split-may true false false d h = absurd (cc)
split-may false b true true h = absurd (cc)
split-may false b true false h = absurd (cc)
split-may false b false d h = absurd (cc)

leaf-may : (a b c d : Bool) → node_or_none a b c d ≡ Some words.Leaf → d ≡ true
leaf-may true true c d h = absurd (cc)
leaf-may true false true true h = refl
leaf-may true false true false h = absurd (cc)
leaf-may true false false d h = absurd (cc)
leaf-may false b true true h = refl
leaf-may false b true false h = absurd (cc)
leaf-may false b false d h = absurd (cc)

-- the word of a split says that a split may come, and that of a leaf that a leaf may
abbrev pub MayCome : (may_split may_end : Bool) → NodeWord → Type 0
MayCome may_split may_end words.Split = may_split ≡ true
MayCome may_split may_end words.Leaf = may_end ≡ true

may-come : (may_split may_end : Bool) (word : NodeWord) (text : List ℕ) → node_word may_split may_end text ≡ Some word → MayCome may_split may_end word
may-come may_split may_end words.Split text is = split-may (bytes_eq text (codes "SPLIT")) may_split (bytes_eq text (codes "LEAF")) may_end is
may-come may_split may_end words.Leaf text is = leaf-may (bytes_eq text (codes "SPLIT")) may_split (bytes_eq text (codes "LEAF")) may_end is

pub word-may : (may_split may_end : Bool) (front : List Token) (word : NodeWord) → Fills (keyword (node_word may_split may_end)) front word →
    MayCome may_split may_end word
word-may may_split may_end front word h =
    let means = keyword-means (node_word may_split may_end) front word h in
    may-come may_split may_end word means.0 means.1

-- ---- the tree

-- a tree has a leaf
pub leaves-some : (one : Tree) → 1 ≤ leaves_in one
unfolding leaves_in
leaves-some (leaf_tree one) = omega arith
leaves-some (split_tree fact first second) = omega (arith, leaves-some first)

module _ (t : ScenarioTables) (weeks prices : ℕ) (some : 1 ≤ prices) where
  -- the tree is of facts about these weeks and of leaves with one of these prices, and its leaves are within the limits
  pub record IsTreeWithin (low high : ℕ) (one : Tree) : Type 0 where
    pub is_for : IsTreeFor (numbers_of t) weeks prices one
    pub least : low ≤ leaves_in one
    pub most : leaves_in one ≤ high

  after-within : (below : (low high : ℕ) → Layout Tree) →
      ((low high : ℕ) (front : List Token) (one : Tree) → 1 ≤ high → Fills (below low high) front one → IsTreeWithin low high one) →
      (low high : ℕ) (word : NodeWord) (front : List Token) (one : Tree) → 1 ≤ high → MayCome (nat_lt 1 high) (nat_le low 1) word →
      Fills (tree_after t weeks prices below low high word) front one → IsTreeWithin low high one
  unfolding Fills tree_after IsTreeFor leaves_in
  after-within below each low high words.Split front one above may h =
      -- the fact, the first tree, the second tree
      let more = ltb-true 1 high may in
      let first = h.5 in
      let second = first.5 in
      let is_first = each 1 (high - 1) first.1 first.0 (omega (arith, more)) first.4 in
      let room = is_first.most in
      let is_second = each (low - leaves_in first.0) (high - leaves_in first.0) second.1 second.0 (omega (arith, more, room)) second.4 in
      rw second.5.1 (record {
        is_for = (fact-exists t weeks h.1 h.0 h.4, is_first.is_for, is_second.is_for);
        least = omega (arith, is_second.least);
        most = omega (arith, more, room, is_second.most);
      })
  after-within below each low high words.Leaf front one above may h =
      rw h.5.1 (record {
        is_for = leaf-is prices h.1 h.0 some h.4;
        least = leb-true low 1 may;
        most = above;
      })

  pub tree-within : (depth low high : ℕ) (front : List Token) (one : Tree) → 1 ≤ high → Fills (tree_within t weeks prices depth low high) front one →
      IsTreeWithin low high one
  unfolding Fills tree_within
  tree-within zero low high front one above h = absurd (cc h.2)
  tree-within (suc depth) low high front one above h =
      after-within (tree_within t weeks prices depth) (tree-within depth) low high h.0 h.2 one above
      (word-may (nat_lt 1 high) (nat_le low 1) h.1 h.0 h.4) h.5
