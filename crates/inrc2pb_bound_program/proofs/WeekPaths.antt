-- The paths of the weeks, one after the other.
use Rattle.std.proofs.Common.{◌≡◌, ◌∙◌, ◌+◌, ◌<◌, ℕ, List, Option, [], ◌∷◌, ◌++◌, ap, arith, get_or, length, map}
use Rattle.std.proofs.Common.{option_map, string_bytes, sym, take}
use Rattle.std.specs.Borrow.{Bor}
use Rattle.std.specs.List.{range_with_len}
use Rattle.std.specs.declared.string.String.{String}
use Rattle.std.proofs.lemmas.List.{map-append, take_more}
use Rattle.std.proofs.lemmas.List.FromFn.{map-range_with_len_more}
use Rattle.clap.specs.Words.{Text}
use Rattle.inrc2pb_frame.specs.Options.{texts}
use Rattle.rota_bound_run.specs.declared.files.WeekFiles.{WeekFiles}

module _ {X : Type 0} (old new : List (WeekFiles (String X))) (one : WeekFiles (String X)) (is : new ≡ old ++ one ∷ []) (index : ℕ) where
  -- one more week has its path
  pub weeks_more : (weeks : List (Bor Text)) (d : Bor Text) → index < length weeks → string_bytes one.week ≡ (get_or weeks index d).now →
      map (λ week. string_bytes week.week) old ≡ texts (take index weeks) →
      map (λ week. string_bytes week.week) new ≡ texts (take (index + 1) weeks)
  weeks_more weeks d lt week so_far =
      ap (map (λ (w : WeekFiles (String X)). string_bytes w.week)) is
      ∙ map-append (λ (w : WeekFiles (String X)). string_bytes w.week) old (one ∷ [])
      ∙ ap (λ (front : List Text). front ++ string_bytes one.week ∷ []) so_far
      ∙ ap (λ (text : Text). texts (take index weeks) ++ text ∷ []) week
      ∙ sym (ap texts (take_more weeks index d lt) ∙ map-append (λ (b : Bor Text). b.now) (take index weeks) (get_or weeks index d ∷ []))

  -- and its held cells, if they are named
  pub fixes_more : (fix : ℕ → Option Text) → option_map string_bytes one.fix ≡ fix (index + 1) →
      map (λ week. option_map string_bytes week.fix) old ≡ map fix (range_with_len 1 index) →
      map (λ week. option_map string_bytes week.fix) new ≡ map fix (range_with_len 1 (index + 1))
  fixes_more fix named so_far =
      ap (map (λ (w : WeekFiles (String X)). option_map string_bytes w.fix)) is
      ∙ map-append (λ (w : WeekFiles (String X)). option_map string_bytes w.fix) old (one ∷ [])
      ∙ ap (λ front. front ++ option_map string_bytes one.fix ∷ []) so_far
      ∙ ap (λ named_one. map fix (range_with_len 1 index) ++ named_one ∷ []) named
      ∙ sym (map-range_with_len_more fix 1 index (index + 1) (omega arith))
