use Rattle.std.proofs.Common.{◌-◌, take, List, ℕ, Bor, [], subst, sym, ◌∙◌, ap, length, drop, map}
use Rattle.std.specs.List.{AllZip}
use Rattle.ffv1_stretches.specs.Stretches.{HasPlace}
use Rattle.ffv1_stretches.specs.Listed.{IsPlaceWord}
use Rattle.ffv1_stretches.proofs.WordLemmas.{now_of, from_and_places}
use Rattle.ffv1_stretches.proofs.words.read_stretch.Goals as goal

abbrev no_word : Bor (List ℕ)
no_word = record { ref_ptr = (0, 0); now = [] }

pub returns-in_default-read_from : goal.returns-in_default-read_from
returns-in_default-read_from c = λ stretch are.
    let read : AllZip IsPlaceWord (map now_of (take (length c.args.words.now - 3) (drop 3 c.args.words.now))) c.in-Some.places.items = rw c.in-Some.is at c.in_ok-places.ensures in
    let both = from_and_places c.args.words.now no_word c.args.copies stretch c.in-Some.places.items c.in-len3-up.len_at_least read are in
    c.in_default-read_from.ensures stretch.from both.0 (subst (λ places. HasPlace places stretch.from) (both.1 ∙ sym c.as_slice.ensures.value) are.there)

pub returns-then-len-copies : goal.returns-then-len-copies
returns-then-len-copies c = λ stretch are.
    let read : AllZip IsPlaceWord (map now_of (take (length c.args.words.now - 3) (drop 3 c.args.words.now))) c.in-Some.places.items = rw c.in-Some.is at c.in_ok-places.ensures in
    let both = from_and_places c.args.words.now no_word c.args.copies stretch c.in-Some.places.items c.in-len3-up.len_at_least read are in
    c.if-len-copies.true (c.len.ensures ∙ sym c.as_slice.ensures.len ∙ ap length c.as_slice.ensures.value ∙ sym (ap length both.1) ∙ are.count)
