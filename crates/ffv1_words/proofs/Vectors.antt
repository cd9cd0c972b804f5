-- Arguments as clap reads them.
use Rattle.std.proofs.Common.{◌≡◌, List, [], ◌∷◌, Option, Some, None, option_map, codes, true, false, refl, inl, inr, arith}
use Rattle.clap.specs.Words.{Row, Text, all_of, first_of, subcommand_of, takes}
use Rattle.clap.proofs.OnLiterals.{clap_on_literals}
use Rattle.ffv1_words.specs.Grammar.{program_app}
use Rattle.ffv1_words.specs.AnyWords.{HaveAnyWord}

-- the command, the first value of one name, and all values of another
abbrev read_of : Text → Text → List Text → Option (Text × Option Text × Option (List Text))
read_of one several arguments =
    option_map (λ (p : Text × List Row). (p.0, first_of one p.1, all_of several p.1)) (subcommand_of program_app (codes "ffv1restore" ∷ arguments))

join_is_read : read_of (codes "OUT") (codes "HOLD") (codes "join" ∷ codes "c" ∷ codes "a" ∷ codes "b" ∷ [])
    ≡ Some (codes "join", Some (codes "c"), Some (codes "a" ∷ codes "b" ∷ []))
unfolding clap_on_literals
join_is_read = refl

mend_is_read : read_of (codes "LIST") (codes "COPY") (codes "mend" ∷ codes "l" ∷ codes "c" ∷ codes "a" ∷ codes "b" ∷ [])
    ≡ Some (codes "mend", Some (codes "l"), Some (codes "a" ∷ codes "b" ∷ []))
unfolding clap_on_literals
mend_is_read = refl

words_after_dashes_are_read : read_of (codes "OUT") (codes "COPY") (codes "splice" ∷ codes "--" ∷ codes "-c" ∷ codes "--" ∷ [])
    ≡ Some (codes "splice", Some (codes "-c"), Some (codes "--" ∷ []))
unfolding clap_on_literals
words_after_dashes_are_read = refl

one_file_is_taken : takes program_app (codes "ffv1restore" ∷ codes "chain" ∷ codes "a" ∷ []) ≡ true
unfolding clap_on_literals
one_file_is_taken = refl

two_files_are_refused : takes program_app (codes "ffv1restore" ∷ codes "chain" ∷ codes "a" ∷ codes "b" ∷ []) ≡ false
unfolding clap_on_literals
two_files_are_refused = refl

help_is_read : read_of (codes "COPY") (codes "COPY") (codes "help" ∷ []) ≡ Some (codes "help", None, None)
unfolding clap_on_literals
help_is_read = refl

help_of_a_command_is_refused : takes program_app (codes "ffv1restore" ∷ codes "help" ∷ codes "chain" ∷ []) ≡ false
unfolding clap_on_literals
help_of_a_command_is_refused = refl

version_is_taken : takes program_app (codes "ffv1restore" ∷ codes "version" ∷ []) ≡ true
unfolding clap_on_literals
version_is_taken = refl

asked_by_a_dash_is_refused : takes program_app (codes "ffv1restore" ∷ codes "--help" ∷ []) ≡ false
unfolding clap_on_literals
asked_by_a_dash_is_refused = refl

no_copy_is_refused : takes program_app (codes "ffv1restore" ∷ codes "splice" ∷ codes "c" ∷ []) ≡ false
unfolding clap_on_literals
no_copy_is_refused = refl

-- ---- the word `--any`

any_word_of_take : HaveAnyWord (codes "ffv1restore" ∷ codes "take" ∷ codes "--any" ∷ codes "record" ∷ []) (codes "ffv1restore" ∷ codes "take" ∷ codes "record" ∷ [])
any_word_of_take = (inl refl, refl, refl)

any_word_of_picture : HaveAnyWord (codes "ffv1restore" ∷ codes "picture" ∷ codes "--any" ∷ []) (codes "ffv1restore" ∷ codes "picture" ∷ [])
any_word_of_picture = (inr (inr (inr (inr (inr refl)))), refl, refl)

no_any_word_of_splice : (others : List Text) → ¬ HaveAnyWord (codes "ffv1restore" ∷ codes "splice" ∷ codes "--any" ∷ codes "out" ∷ []) others
no_any_word_of_splice others has = grind (arith, has.0)

no_any_word_at_the_end : (others : List Text) → ¬ HaveAnyWord (codes "ffv1restore" ∷ codes "report" ∷ codes "hold" ∷ codes "--any" ∷ []) others
no_any_word_at_the_end others has = cc has.1

any_word_left_is_refused : takes program_app (codes "ffv1restore" ∷ codes "report" ∷ codes "hold" ∷ codes "--any" ∷ []) ≡ false
unfolding clap_on_literals
any_word_left_is_refused = refl
