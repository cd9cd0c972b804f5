use Rattle.std.proofs.Common.{Bor, List, ℕ, map, option_map, ap, sym, ◌∙◌}
use Rattle.ffv1_words.specs.Inner.Arguments.{rows_matched}
use Rattle.ffv1_words.specs.Arguments.{AreValues}
use Rattle.ffv1_words.proofs.Grammar.{raw_values-words, raw_values-none}
use Rattle.ffv1_words.proofs.Refusals.{found_or}
use Rattle.ffv1_words.proofs.reading.several.Goals as goal

-- the words themselves
abbrev texts : Bor (List (Bor (List ℕ))) → List (List ℕ)
texts words = map (λ (word : Bor (List ℕ)). word.now) words.now

pub returns : goal.returns
returns c =
    found_or (λ words. AreValues (rows_matched c.args.matches.now) c.args.name.now (texts words))
    (AreValues (rows_matched c.args.matches.now) c.args.name.now) c.get_strs.result c.ok_or.result c.ok_or.ensures.value
    (λ words is. raw_values-words c.args.matches.now c.args.name.now (texts words) (sym c.get_strs.ensures ∙ ap (option_map texts) is))
    (λ is. raw_values-none c.args.matches.now c.args.name.now (sym c.get_strs.ensures ∙ ap (option_map texts) is))
