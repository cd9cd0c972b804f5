use Rattle.std.proofs.Common.{◌≡◌, List, ℕ, false, length, map, ap, sym, ◌∙◌, subst}
use Rattle.std.specs.List.{AllZip}
use Rattle.std.proofs.lemmas.List.{length-map}
use Rattle.ffv1_stretches.specs.Stretches.{StretchValue, IsAfter}
use Rattle.ffv1_stretches.specs.Listed.{AreStretchWords}
use Rattle.std.specs.Prelude.{IsTrue}
use Rattle.ffv1_stretches.specs.declared.ends.End.{End}
use Rattle.ffv1_stretches.specs.Inner.Ends.{end_of}
use Rattle.ffv1_stretches.proofs.WordLemmas.{now_of, one_stretch}
use Rattle.ffv1_stretches.proofs.listing.add_stretch.Goals as goal

pub returns-in_default : goal.returns-in_default
returns-in_default c = λ next is.
    let copies : ℕ = length c.as_slice-copies.result.now in
    let none : (stretch : StretchValue) → AreStretchWords (length c.as_slice-copies.result.now) (map now_of c.args.words.now) stretch → ⊥ =
    rw c.in_default.is at c.in_ok-stretch.ensures in
    let count : length (map end_of c.args.ends.now.items) ≡ length c.as_slice-copies.result.now =
    length-map c.args.ends.now.items end_of ∙ ap length (sym c.as_slice-copies.ensures.value) in
    none next (subst (λ n. AreStretchWords n (map now_of c.args.words.now) next) count is.words')

pub returns-then-not-follow : goal.returns-then-not-follow
returns-then-not-follow c = λ next is.
    let count : length (map end_of c.args.ends.now.items) ≡ length c.as_slice-copies.result.now =
    length-map c.args.ends.now.items end_of ∙ ap length (sym c.as_slice-copies.ensures.value) in
    let read : AreStretchWords (length c.as_slice-copies.result.now) (map now_of c.args.words.now) c.in-Some.stretch = rw c.in-Some.is at c.in_ok-stretch.ensures in
    let same = one_stretch (length c.as_slice-copies.result.now) (map now_of c.args.words.now) next c.in-Some.stretch
    (subst (λ n. AreStretchWords n (map now_of c.args.words.now) next) count is.words') read in
    let places : next.places ≡ c.as_slice-2.result.now =
    ap (λ (s : StretchValue). s.places) same ∙ sym (ap (λ (s : StretchValue). s.places) c.stretch.view_is) ∙ sym c.as_slice-2.ensures.value in
    let follows : AllZip IsAfter (map end_of c.as_slice.result.now) c.as_slice-2.result.now =
    subst (AllZip IsAfter (map end_of c.as_slice.result.now)) places
    (subst (λ (es : List End). AllZip IsAfter (map end_of es) next.places) (sym c.as_slice.ensures.value) is.follows) in
    let no : IsTrue false = c.if-not-follow.ensures.1 follows in
    absurd (cc)
