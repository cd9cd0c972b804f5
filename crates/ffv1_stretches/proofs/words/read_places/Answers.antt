use Rattle.std.proofs.Common.{◌+◌, ◌<◌, List, ℕ, Bor, [], None, length, map, get_or, take, subst, sym, arith}
use Rattle.std.specs.List.{AllZip}
use Rattle.std.proofs.lemmas.List.{length-map}
use Rattle.ffv1_mend.proofs.PartSteps.{zip_at, zip_more}
use Rattle.ffv1_stretches.specs.Listed.{IsPlaceWord}
use Rattle.ffv1_stretches.proofs.WordLemmas.{now_of, now_at}
use Rattle.ffv1_stretches.proofs.words.read_places.Goals as goal

abbrev no_word : Bor (List ℕ)
no_word = record { ref_ptr = (0, 0); now = [] }

pub returns-in-None : goal.returns-in-None
returns-in-None c = λ places all.
    let i = c.loop-word.word-index in
    let within : i < length (map now_of c.args.words.now) = omega (arith, length-map c.args.words.now now_of) in
    c.in-None.ensures (get_or places i None) (subst (λ w. IsPlaceWord w (get_or places i None)) (now_at c.args.words.now i no_word c.loop-word-test.true)
    (zip_at IsPlaceWord (map now_of c.args.words.now) places i [] None all within))

pub loop-word-preserved : goal.loop-word-preserved
loop-word-preserved c =
    let i = c.loop-word.word-index in
    let within : i < length (map now_of c.args.words.now) = omega (arith, length-map c.args.words.now now_of) in
    subst (AllZip IsPlaceWord (take (i + 1) (map now_of c.args.words.now))) (sym c.in_ok-push-in-Some.ensures.items)
    (zip_more IsPlaceWord (map now_of c.args.words.now) c.loop-word.places.items i [] c.in-Some.place within c.loop-word.invariant
    (subst (λ w. IsPlaceWord w c.in-Some.place) (sym (now_at c.args.words.now i no_word c.loop-word-test.true)) c.in-Some.ensures))
