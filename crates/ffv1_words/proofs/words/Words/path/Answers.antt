use Rattle.std.proofs.Common.{◌≡◌, ◌<◌, ◌∙◌, ℕ, List, [], Bor, length, get_or, ap, sym, rules}
use Rattle.std.proofs.lemmas.List.{get_or-map}
use Rattle.ffv1_words.specs.WordPaths.{path_word, word_at}
use Rattle.ffv1_words.proofs.words.Words.path.Goals as goal

-- a word that was taken from its place among words
word_there : (words : List (Bor (List ℕ))) (place : ℕ) (word : Bor (List ℕ)) → place < length words → word ≡ get_or words place word
    → word.now ≡ word_at words place
word_there words place word within is =
    ap (λ word. word.now) is ∙ sym (get_or-map (λ (word : Bor (List ℕ)). word.now) words place word [] within)

pub returns-in-Report-Hold : goal.returns-in-Report-Hold
unfolding path_word
returns-in-Report-Hold c = search rules

pub returns-in-Take-Out : goal.returns-in-Take-Out
unfolding path_word
returns-in-Take-Out c = search rules

pub returns-in-Take-Copy : goal.returns-in-Take-Copy
unfolding path_word
returns-in-Take-Copy c = search (rules, word_there)
