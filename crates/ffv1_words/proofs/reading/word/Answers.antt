use Rattle.std.proofs.Common.{Bor, List, ℕ, Option, option_map, ap, sym, ◌∙◌}
use Rattle.ffv1_words.specs.Inner.Arguments.{rows_matched}
use Rattle.ffv1_words.specs.Arguments.{IsWord}
use Rattle.ffv1_words.proofs.Grammar.{first_value-word, first_value-none}
use Rattle.ffv1_words.proofs.Refusals.{found_or}
use Rattle.ffv1_words.proofs.reading.word.Goals as goal

pub returns-clause-read : goal.returns-clause-read
returns-clause-read c =
    let text : Option (Bor (List ℕ)) → Option (List ℕ) = option_map (λ (word : Bor (List ℕ)). word.now) in
    found_or (λ (word : Bor (List ℕ)). IsWord (rows_matched c.args.matches.now) c.args.name.now word.now)
    (IsWord (rows_matched c.args.matches.now) c.args.name.now) c.get_str.result c.ok_or.result c.ok_or.ensures.value
    (λ word is. first_value-word c.args.matches.now c.args.name.now word.now (sym c.get_str.ensures ∙ ap text is))
    (λ is. first_value-none c.args.matches.now c.args.name.now (sym c.get_str.ensures ∙ ap text is))
