-- To read the rows of a tree's nodes, one after the other, is to read the tree.
use Rattle.std.proofs.Common.{◌≡◌, ℕ, zero, suc, ◌+◌, ◌*◌, ◌-◌, ◌<◌, ◌≤◌, nat_lt, ◌==◌, Bool, true, false, ◌||◌, ◌⊎◌, inl, inr}
use Rattle.std.proofs.Common.{List, [], ◌∷◌, ◌++◌, Result, Ok, Err, refl, sym, ap, ◌∙◌, arith}
use Rattle.std.specs.Prelude.{nat_le}
use Rattle.std.proofs.lemmas.Bool.Decides.{nat_tests}
use Rattle.std.proofs.lemmas.Bool.{ltb-true}
use Rattle.std.proofs.lemmas.List.{append_assoc}
use Rattle.rota_core.specs.ScenarioTables.{ScenarioTables}
use Rattle.rota_core.specs.TreeNodes.{NodeTables, leaf_with, nodes_of, split_by, tree-again, tree_of}
use Rattle.rota_core.specs.Trees.{LeafTables, Tree, leaf_tree, leaves_in, split_tree}
use Rattle.rota_core.specs.declared.certificate.Fact.{Fact}
use Rattle.rota_layout.specs.Layout.{Layout, repeat}
use Rattle.rota_layout.specs.Reading.{Fails, Reading, read_layout, then_read}
use Rattle.rota_layout.specs.declared.fault.LayoutError.{LayoutError}
use Rattle.rota_layout.specs.declared.fault.LayoutError.TheVariants as stops
use Rattle.rota_layout.specs.declared.fault.LineFault.{LineFault}
use Rattle.rota_certificate_read.specs.CertificateLayout.{leaf, node_word, tree, tree_after, tree_within}
use Rattle.rota_certificate_read.specs.FactsLayout.{fact, keyword}
use Rattle.rota_certificate_read.specs.TreeRows.{PartTables, and_leaf, and_split, may_end, may_split, no_nodes, node_after, node_row, tree_nodes}
use Rattle.rota_certificate_read.specs.declared.certificate.NodeWord.{NodeWord}
use Rattle.rota_certificate_read.specs.declared.certificate.NodeWord.TheVariants as words
use Rattle.rota_certificate_read.proofs.TreeLaws.{IsTreeWithin, MayCome, leaves-some, tree-within, word-may}
use Rattle.rota_layout.proofs.ReadingLaws.{fills-read, front_fails, then_read-same}

-- a part after a part after a part
then_read-then : {A B C : Type 0} (r : Result A LineFault) (f : A → Result B LineFault) (g : B → Result C LineFault) →
    then_read (then_read r f) g ≡ then_read r (λ a. then_read (f a) g)
then_read-then (Ok a) f g = refl
then_read-then (Err e) f g = refl

-- these nodes, and then those of the tree
abbrev and_tree : PartTables → Tree → PartTables
and_tree part one = record {
  nodes = part.nodes ++ nodes_of one;
  splits = part.splits + (leaves_in one - 1);
  leaves = part.leaves + leaves_in one;
}

module _ (t : ScenarioTables) (weeks prices all : ℕ) (some : 1 ≤ prices) where
  abbrev rows : ℕ → PartTables → Layout PartTables
  rows n part = repeat n (node_row t weeks prices all) part

  rows-same : (n m : ℕ) (one other : PartTables) (left : Reading) → n ≡ m → one.nodes ≡ other.nodes → one.splits ≡ other.splits →
      one.leaves ≡ other.leaves → read_layout (rows n one) left ≡ read_layout (rows m other) left
  rows-same n m one other left count nodes splits leaves =
      ap (λ (x : ℕ). read_layout (rows x one) left) count ∙
      ap (λ (x : List NodeTables). read_layout (rows m (record one { nodes = x })) left) nodes ∙
      ap (λ (x : ℕ). read_layout (rows m (record one { nodes = other.nodes; splits = x })) left) splits ∙
      ap (λ (x : ℕ). read_layout (rows m (record other { leaves = x })) left) leaves

  -- a tree of at least `low` and at most `high` leaves comes next, of this number of rows: another tree is to come after it, or it has all
  -- leaves that are left
  record IsPlace (low high n : ℕ) (part : PartTables) : Type 0 where
    pub above : 1 ≤ high
    pub order : low ≤ high
    pub room : part.splits + high ≡ all
    pub left : n + (part.splits + part.leaves) + 1 ≡ 2 * all
    pub last : ((part.leaves < part.splits) × (low ≤ 1)) ⊎ ((part.leaves ≡ part.splits) × (low ≡ high))

  few-leaves : (low high n : ℕ) (part : PartTables) → IsPlace low high n part → part.leaves ≤ part.splits
  few-leaves low high n part place =
      elim place.last [
        | inl more ↦ omega (arith, more.0)
        | inr all_left ↦ omega (arith, all_left.0)
      ]

  splits-same : (low high n : ℕ) (part : PartTables) → IsPlace low high n part → may_split all part ≡ nat_lt 1 high
  splits-same low high n part place = let room = place.room in grind (arith, nat_tests, room)

  ends-more : (splits leaves low : ℕ) → leaves < splits → low ≤ 1 → (nat_lt leaves splits || leaves + 1 == all) ≡ nat_le low 1
  ends-more splits leaves low less few = grind (arith, nat_tests, less, few)

  ends-last : (splits leaves high : ℕ) → leaves ≡ splits → 1 ≤ high → splits + high ≡ all →
      (nat_lt leaves splits || leaves + 1 == all) ≡ nat_le high 1
  ends-last splits leaves high same above room = grind (arith, nat_tests, same, above, room)

  ends-same : (low high n : ℕ) (part : PartTables) → IsPlace low high n part → may_end all part ≡ nat_le low 1
  ends-same low high n part place =
      elim place.last [
        | inl more ↦ ends-more part.splits part.leaves low more.0 more.1
        | inr all_left ↦
            ends-last part.splits part.leaves high all_left.0 place.above place.room ∙ ap (λ (x : ℕ). nat_le x 1) (sym all_left.1)
      ]

  -- the rows that are left after the tree
  abbrev then_rows : ℕ → PartTables → Tree × Reading → Result (PartTables × Reading) LineFault
  then_rows n part x = read_layout (rows (n - (2 * leaves_in x.0 - 1)) (and_tree part x.0)) x.1

  -- the rows are read as the tree, and then as the rows that are left
  abbrev Walks : (depth low high n : ℕ) → PartTables → Reading → Type 0
  Walks depth low high n part start =
      read_layout (rows n part) start ≡ then_read (read_layout (tree_within t weeks prices depth low high) start) (then_rows n part)

  module _ (depth low high n : ℕ) (part : PartTables)
      (each : (low high n : ℕ) (part : PartTables) (start : Reading) → high ≤ depth → IsPlace low high n part → Walks depth low high n part start)
      (deep : high ≤ suc depth) (place : IsPlace low high (suc n) part) where
    abbrev next : PartTables × Reading → Result (PartTables × Reading) LineFault
    next x = read_layout (rows n x.0) x.1

    leaf-walks : (r : Result (LeafTables × Reading) LineFault) →
        then_read (then_read r (λ z. Ok (and_leaf part z.0, z.1))) next ≡
        then_read (then_read r (λ z. Ok (leaf_tree z.0, z.1))) (then_rows (suc n) part)
    unfolding nodes_of leaves_in
    leaf-walks (Err e) = refl
    leaf-walks (Ok z) = rows-same n (suc n - 1) (and_leaf part z.0) (and_tree part (leaf_tree z.0)) z.1 (omega arith) refl (omega arith) refl

    module _ (one : Fact) (more : 1 < high) where
      abbrev after_one : PartTables
      after_one = and_split part one

      first-place : IsPlace 1 (high - 1) n after_one
      first-place =
          let few = few-leaves low high (suc n) part place in
          let left = place.left in
          record {
            above = omega (arith, more);
            order = omega (arith, more);
            room = omega (arith, more, place.room);
            left = omega (arith, left);
            last = inl (omega (arith, few), omega arith);
          }

      -- the second tree, after the first
      abbrev second : Tree → Reading → Result (Tree × Reading) LineFault
      second first left = read_layout (tree_within t weeks prices depth (low - leaves_in first) (high - leaves_in first)) left

      module _ (first : Tree) (is : IsTreeWithin t weeks prices some 1 (high - 1) first) where
        abbrev after_two : PartTables
        after_two = and_tree after_one first

        abbrev n_left : ℕ
        n_left = n - (2 * leaves_in first - 1)

        second-place : IsPlace (low - leaves_in first) (high - leaves_in first) n_left after_two
        second-place =
            let few = few-leaves low high (suc n) part place in
            let room = place.room in
            let left = place.left in
            let least = is.least in
            let most = is.most in
            record {
              above = omega (arith, more, most);
              order = omega (arith, place.order);
              room = omega (arith, room, more, least, most);
              left = omega (arith, left, room, more, few, least, most);
              last =
                  elim place.last [
                    | inl another ↦ inl (omega (arith, another.0, least), omega (arith, another.1))
                    | inr all_left ↦ inr (omega (arith, all_left.0, least), omega (arith, all_left.1))
                  ];
            }

        second-walks : (left : Reading) → then_rows n after_one (first, left) ≡
            then_read (then_read (second first left) (λ b. Ok (split_tree one first b.0, b.1))) (then_rows (suc n) part)
        unfolding nodes_of leaves_in
        second-walks left =
            let joined : (b : Tree × Reading) → second first left ≡ Ok b →
            then_rows n_left after_two b ≡ then_rows (suc n) part (split_tree one first b.0, b.1) =
            λ b _.
            let least = is.least in
            let some_left = leaves-some b.0 in
            rows-same (n_left - (2 * leaves_in b.0 - 1)) (suc n - (2 * (leaves_in first + leaves_in b.0) - 1)) (and_tree after_two b.0)
            (and_tree part (split_tree one first b.0)) b.1 (omega (arith, least, some_left))
            (append_assoc (part.nodes ++ split_by one ∷ []) (nodes_of first) (nodes_of b.0) ∙
            append_assoc part.nodes (split_by one ∷ []) (nodes_of first ++ nodes_of b.0))
            (omega (arith, least, some_left)) (omega arith) in
            each (low - leaves_in first) (high - leaves_in first) n_left after_two left (omega (arith, deep, is.least)) second-place ∙
            then_read-same (second first left) (then_rows n_left after_two) (λ b. then_rows (suc n) part (split_tree one first b.0, b.1)) joined ∙
            sym (then_read-then (second first left) (λ b. Ok (split_tree one first b.0, b.1)) (then_rows (suc n) part))

      abbrev trees : Tree × Reading → Result (Tree × Reading) LineFault
      trees a = then_read (second a.0 a.1) (λ b. Ok (split_tree one a.0 b.0, b.1))

      trees-walk : (left : Reading) → read_layout (rows n after_one) left ≡
          then_read (then_read (read_layout (tree_within t weeks prices depth 1 (high - 1)) left) trees) (then_rows (suc n) part)
      trees-walk left =
          let front = read_layout (tree_within t weeks prices depth 1 (high - 1)) left in
          let within : (a : Tree × Reading) → front ≡ Ok a → IsTreeWithin t weeks prices some 1 (high - 1) a.0 =
          λ a is.
          let found = fills-read (tree_within t weeks prices depth 1 (high - 1)) left.last left.rest a.0 a.1 is in
          tree-within t weeks prices some depth 1 (high - 1) found.0 a.0 (omega (arith, more)) found.3 in
          each 1 (high - 1) n after_one left (omega (arith, deep)) first-place ∙
          then_read-same front (then_rows n after_one) (λ a. then_read (trees a) (then_rows (suc n) part))
          (λ a is. second-walks a.0 (within a is) a.1) ∙
          sym (then_read-then front trees (then_rows (suc n) part))

    split-walks : (more : 1 < high) (r : Result (Fact × Reading) LineFault) →
        then_read (then_read r (λ z. Ok (and_split part z.0, z.1))) next ≡
        then_read (then_read r (λ z. then_read (read_layout (tree_within t weeks prices depth 1 (high - 1)) z.1) (trees z.0 more)))
        (then_rows (suc n) part)
    split-walks more (Err e) = refl
    split-walks more (Ok z) = trees-walk z.0 more z.1

    node-walks : (word : NodeWord) (left : Reading) → MayCome (nat_lt 1 high) (nat_le low 1) word →
        then_read (read_layout (node_after t weeks prices part word) left) next ≡
        then_read (read_layout (tree_after t weeks prices (tree_within t weeks prices depth) low high word) left) (then_rows (suc n) part)
    unfolding node_after tree_after read_layout
    node-walks words.Split left may = split-walks (ltb-true 1 high may) (read_layout (fact t weeks) left)
    node-walks words.Leaf left may = leaf-walks (read_layout (leaf prices) left)

  walks : (depth low high n : ℕ) (part : PartTables) (start : Reading) → high ≤ depth → IsPlace low high n part → Walks depth low high n part start
  unfolding repeat read_layout node_row tree_within
  walks zero low high n part start deep place = absurd (omega (arith, deep, place.above))
  walks (suc depth) low high zero part start deep place =
      absurd (omega (arith, place.left, place.room, place.above, few-leaves low high zero part place))
  walks (suc depth) low high (suc n) part start deep place =
      let row = λ (may_split may_end : Bool). read_layout (keyword (node_word may_split may_end)) start in
      let word = row (nat_lt 1 high) (nat_le low 1) in
      let after = λ (x : NodeWord × Reading). read_layout (node_after t weeks prices part x.0) x.1 in
      let tree = λ (x : NodeWord × Reading). read_layout (tree_after t weeks prices (tree_within t weeks prices depth) low high x.0) x.1 in
      let last = λ (x : PartTables × Reading). read_layout (rows n x.0) x.1 in
      let may : (x : NodeWord × Reading) → word ≡ Ok x → MayCome (nat_lt 1 high) (nat_le low 1) x.0 =
      λ x is.
      let found = fills-read (keyword (node_word (nat_lt 1 high) (nat_le low 1))) start.last start.rest x.0 x.1 is in
      word-may (nat_lt 1 high) (nat_le low 1) found.0 x.0 found.3 in
      ap (λ (b : Bool). then_read (then_read (row b (may_end all part)) after) last) (splits-same low high (suc n) part place) ∙
      ap (λ (b : Bool). then_read (then_read (row (nat_lt 1 high) b) after) last) (ends-same low high (suc n) part place) ∙
      then_read-then word after last ∙
      then_read-same word (λ x. then_read (after x) last) (λ x. then_read (tree x) (then_rows (suc n) part))
      (λ x is. node-walks depth low high n part (walks depth) deep place x.0 x.1 (may x is)) ∙
      sym (then_read-then word tree (then_rows (suc n) part))

  -- all rows
  pub rows-are-tree : (start : Reading) → 1 ≤ all →
      read_layout (tree_nodes t weeks prices all) start ≡
      then_read (read_layout (repeat (2 * all - 1) (node_row t weeks prices all) no_nodes) start) (λ x. Ok (x.0.nodes, x.1))
  unfolding tree_nodes read_layout repeat
  rows-are-tree start above =
      let whole = read_layout (tree_within t weeks prices all all all) start in
      let nodes : PartTables × Reading → Result (List NodeTables × Reading) LineFault = λ x. Ok (x.0.nodes, x.1) in
      let n = 2 * all - 1 in
      let place : IsPlace all all n no_nodes = record {
        above = above;
        order = omega arith;
        room = omega arith;
        left = omega (arith, above);
        last = inr (refl, refl);
      } in
      let none : (a : Tree × Reading) → whole ≡ Ok a → Ok (nodes_of a.0, a.1) ≡ then_read (then_rows n no_nodes a) nodes =
      λ a is.
      let found = fills-read (tree_within t weeks prices all all all) start.last start.rest a.0 a.1 is in
      let within = tree-within t weeks prices some all all all found.0 a.0 above found.3 in
      let no_row : 0 ≡ n - (2 * leaves_in a.0 - 1) = omega (arith, within.least, within.most) in
      ap (λ (m : ℕ). then_read (read_layout (rows m (and_tree no_nodes a.0)) a.1) nodes) no_row in
      then_read-same whole (λ a. Ok (nodes_of a.0, a.1)) (λ a. then_read (then_rows n no_nodes a) nodes) none ∙
      sym (then_read-then whole (then_rows n no_nodes) nodes) ∙
      ap (λ (r : Result (PartTables × Reading) LineFault). then_read r nodes) (sym (walks all all all n no_nodes start (omega arith) place))

-- ---- the tree that its nodes make

abbrev nodes_read_as : List NodeTables × Reading → Result (List NodeTables × Reading) LineFault
nodes_read_as x = Ok x

abbrev nodes_read : Tree × Reading → Result (List NodeTables × Reading) LineFault
nodes_read a = Ok (nodes_of a.0, a.1)

ok-same : (one other : List NodeTables × Reading) → nodes_read_as one ≡ nodes_read_as other → one ≡ other
ok-same one other h = cc

pub nodes-made : (r : Result (Tree × Reading) LineFault) (list : List NodeTables) (left : Reading) → then_read r nodes_read ≡ Ok (list, left) →
    (list ≡ nodes_of (tree_of list)) × (r ≡ Ok (tree_of list, left))
nodes-made (Err e) list left h = absurd (cc h)
nodes-made (Ok a) list left h =
    let both = ok-same (nodes_of a.0, a.1) (list, left) h in
    let nodes = ap (λ (x : List NodeTables × Reading). x.0) both in
    let rest = ap (λ (x : List NodeTables × Reading). x.1) both in
    let made : tree_of list ≡ a.0 = ap tree_of (sym nodes) ∙ tree-again a.0 in (
      sym nodes ∙ ap nodes_of (sym made),
      ap (λ (one : Tree). Ok (one, a.1)) (sym made) ∙ ap (λ (after : Reading). Ok (tree_of list, after)) rest,
    )

pub nodes-fail : (r : Result (Tree × Reading) LineFault) (e : LayoutError) → Fails e (then_read r nodes_read) → Fails e r
nodes-fail r stops.Memory h = tt
nodes-fail (Ok a) (stops.Fault f) h = absurd (cc h)
nodes-fail (Err d) (stops.Fault f) h = let same : d ≡ f = cc h in ap Err same

module _ (t : ScenarioTables) (weeks prices leaves : ℕ) (start : Reading) where
  -- the nodes that are read are those of the tree that is read
  pub tree-made : (list : List NodeTables) (left : Reading) → read_layout (tree_nodes t weeks prices leaves) start ≡ Ok (list, left) →
      (list ≡ nodes_of (tree_of list)) × (read_layout (tree t weeks prices leaves) start ≡ Ok (tree_of list, left))
  unfolding tree_nodes read_layout
  tree-made list left h = nodes-made (read_layout (tree t weeks prices leaves) start) list left h

  pub tree-fails : (e : LayoutError) → Fails e (read_layout (tree_nodes t weeks prices leaves) start) →
      Fails e (read_layout (tree t weeks prices leaves) start)
  unfolding tree_nodes read_layout
  tree-fails e h = nodes-fail (read_layout (tree t weeks prices leaves) start) e h

-- the results of the reader of nodes, by those of the reader of rows
pub ruleset tree_walks = (rows-are-tree, front_fails)

-- the results of the reader of trees, by those of the reader of nodes
pub ruleset tree_made = (tree-made, tree-fails)
