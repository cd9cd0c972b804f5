use Rattle.std.proofs.Common.{◌++◌, ◌∷◌, [], List, ℕ, map, ap, sym, subst, ◌∙◌, Bor}
use Rattle.std.proofs.lemmas.List.{map-append}
use Rattle.ffv1_texts.specs.Words.{AreWords, last}
use Rattle.ffv1_texts.proofs.WordSteps.{words_on}
use Rattle.ffv1_texts.proofs.words.words_of.Goals as goal

-- what the words point to
abbrev texts : List (Bor (List ℕ)) → List (List ℕ)
texts words = map (λ (word : Bor (List ℕ)). word.now) words

pub loop-word-preserved : goal.loop-word-preserved
loop-word-preserved c =
    let items = c.in_ok-push.ensures.items in
    let grown = ap texts items ∙ map-append (λ (word : Bor (List ℕ)). word.now) c.loop-word.words.items (c.in-Some.word ∷ []) in
    λ later are. subst (λ (words : List (List ℕ)). AreWords c.args.line.now (words ++ later)) (sym grown)
    (words_on c.args.line.now c.in-Some.word.now c.loop-word.rest.now c.in-Some.more.now (texts c.loop-word.words.items)
    c.in-Some.ensures.0 c.in-Some.ensures.1 c.loop-word.invariant later are)

pub returns : goal.returns
returns c =
    let items = c.in_ok-push-2.ensures.items in
    let grown = ap texts items ∙ map-append (λ (word : Bor (List ℕ)). word.now) c.loop-word.words.items (c.loop-word.rest ∷ []) in
    subst (AreWords c.args.line.now) (sym grown) (c.loop-word.invariant (c.loop-word.rest.now ∷ []) (last c.in_default.ensures))
