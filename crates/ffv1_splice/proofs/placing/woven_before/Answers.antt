use Rattle.ffv1_splice.proofs.Common.{◌≡◌, ◌+◌, ◌≤◌, ◌<◌, ℕ, List, [], Bor, Option, Some, Vec, Global, length, get_or, ap, sym, ◌∙◌, subst, arith, All, MatchOption, Contains-get_or, written, values_of, length-values_of, each_value, StandsAs, IsStop, Woven}
use Rattle.ffv1_splice.proofs.FirstSlices.{woven_size}
use Rattle.ffv1_splice.proofs.PlaceSteps.{placed_as}
use Rattle.ffv1_splice.proofs.placing.woven_before.Goals as goal
use Rattle.ffv1_splice.proofs.placing.woven_before.Goals.{in-None+in_ok-bytes-in-None+in-Some, in-Two+in_ok-woven-in-Two+in-Some-2}

-- what is woven stands: where it begins, its bytes, and of how many combinations
abbrev Stands : List (List ℕ) → ℕ → ℕ × Vec ℕ Global × ℕ → Type 0
Stands copies end woven = StandsAs copies woven.0 end woven.1.items (Woven woven.2)

module _ (copies : List (List ℕ)) (end : ℕ) (woven : ℕ × Vec ℕ Global × ℕ) where
  -- so it does from the front ..
  first_stands : {first : Vec ℕ Global × ℕ} → woven ≡ (0, first.0, first.1) → (found : Option (Vec ℕ Global × ℕ)) → found ≡ Some first
      → MatchOption found (IsStop copies end) (λ (bytes, count). Stands copies end (0, bytes, count)) → Stands copies end woven
  first_stands {first = first} is found there stands =
      subst (Stands copies end) (sym is) (subst (λ f. MatchOption f (IsStop copies end) (λ (bytes, count). Stands copies end (0, bytes, count))) there stands)

  -- .. and from one of several starts
  several_stands : {several : ℕ × Vec ℕ Global × ℕ} → woven ≡ several → (found : Option (ℕ × Vec ℕ Global × ℕ)) → found ≡ Some several
      → MatchOption found (IsStop copies end) (Stands copies end) → Stands copies end woven
  several_stands is found there stands =
      subst (Stands copies end) (sym is) (subst (λ f. MatchOption f (IsStop copies end) (Stands copies end)) there stands)

stands_size : (copies : List (Bor (List ℕ))) (end : ℕ) (woven : ℕ × Vec ℕ Global × ℕ) → 0 < length copies → All (λ copy. end ≤ length copy.now) copies
    → Stands (values_of copies) end woven → woven.0 + length woven.1.items ≡ end
stands_size copies end woven some within stands =
    woven_size (values_of copies) woven.0 end woven.1.items woven.2 (get_or (values_of copies) 0 [])
    (Contains-get_or (values_of copies) 0 [] (omega (arith, length-values_of copies))) (each_value copies (λ copy. end ≤ length copy) within) stands

pub write_at-requires : goal.write_at-requires
write_at-requires c =
    let stands : Stands (values_of c.args.copies.now) c.args.end c.match-starts.start = elim c.match-starts.branch [
      | in-None+in_ok-bytes-in-None+in-Some w ↦ first_stands (values_of c.args.copies.now) c.args.end _ w.start-is _ w.in-Some.is w.in_ok-bytes-in-None.ensures
      | in-Two+in_ok-woven-in-Two+in-Some-2 w ↦ several_stands (values_of c.args.copies.now) c.args.end _ w.start-is _ w.in-Some-2.is w.in_ok-woven-in-Two.ensures
    ] in
    let size = stands_size c.args.copies.now c.args.end c.match-starts.start c.requires.some c.requires.within stands in
    omega (arith, ap length c.as_slice.ensures.value)

pub returns : goal.returns
returns c =
    let stands : Stands (values_of c.args.copies.now) c.args.end c.match-starts.start = elim c.match-starts.branch [
      | in-None+in_ok-bytes-in-None+in-Some w ↦ first_stands (values_of c.args.copies.now) c.args.end _ w.start-is _ w.in-Some.is w.in_ok-bytes-in-None.ensures
      | in-Two+in_ok-woven-in-Two+in-Some-2 w ↦ several_stands (values_of c.args.copies.now) c.args.end _ w.start-is _ w.in-Some-2.is w.in_ok-woven-in-Two.ensures
    ] in
    placed_as (values_of c.args.copies.now) c.match-starts.start.0 c.args.end c.args.payload.now c.write_at.new.payload c.match-starts.start.1.items
    (Woven c.match-starts.start.2) stands (stands_size c.args.copies.now c.args.end c.match-starts.start c.requires.some c.requires.within stands)
    (c.write_at.ensures ∙ ap (written c.args.payload.now c.match-starts.start.0) c.as_slice.ensures.value)
