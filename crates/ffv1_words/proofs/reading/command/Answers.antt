use Rattle.std.proofs.Common.{◌≡◌, ◌+◌, ◌||◌, ap, sym, ◌∙◌, false, map, drop, option_map, List, [], Bor, Option, Some, None}
use Rattle.std.specs.Option.{IsSomeAnd}
use Rattle.std.proofs.lemmas.List.{drop_more, drop_all}
use Rattle.std.proofs.lemmas.Result.{IfOk-weaker}
use Rattle.clap.specs.Lexer.{usize_max}
use Rattle.clap.specs.Words.{App, Rule, Text, app_of, rule_of, with_rule}
use Rattle.clap.specs.declared.builder.arg.Arg.{Arg}
use Rattle.clap.specs.declared.builder.range.ValueRange.{ValueRange}
use Rattle.ffv1_words.specs.Grammar.{with_words, command_app, word_rule, words_rule}
use Rattle.ffv1_words.proofs.reading.command.Goals as goal

range_is : (found : Option ValueRange) (range : ValueRange) → IsSomeAnd found (λ y. y ≡ range) → found ≡ Some range
range_is None range is = absurd is
range_is (Some y) range is = ap Some is

-- a word of which there is one at least
words_are : (one many : Arg) (word : Text) → many ≡ record one { num_vals = many.num_vals } → rule_of one ≡ word_rule word
    → IsSomeAnd many.num_vals (λ y. y ≡ record { start_inclusive = 1; end_inclusive = usize_max }) → rule_of many ≡ words_rule word
words_are one many word is rule range =
    ap rule_of is ∙ ap (λ (r : Rule). record r { range = many.num_vals }) rule
    ∙ ap (λ found. record (word_rule word) { range = found }) (range_is many.num_vals _ range)

-- it stays of its command alone
words_local : (one many : Arg) → many ≡ record one { num_vals = many.num_vals } → one.global ≡ false → many.global ≡ false
words_local one many is local = ap (λ (arg : Arg). arg.global) is ∙ local

pub loop-word-preserved : goal.loop-word-preserved
loop-word-preserved c =
    let added = c.in_ok-command.ensures in
    let before = c.loop-word.invariant in
    let old : App = app_of c.loop-word.command in
    let now : Bor Text → Text = λ word. word.now in
    let rest : List Text = map now (drop (c.loop-word.word-index + 1) c.args.words.now) in
    record {
      app = ap (λ command. with_words command rest) (added.shape c.one.ensures.local ∙ ap (with_rule old) c.one.ensures.rule)
          ∙ sym (ap (λ words. with_words old (map now words)) (drop_more c.args.words.now c.loop-word.word-index _ c.loop-word-test.true))
          ∙ before.app;
      local = added.globals ∙ ap (λ b. b || c.one.result.global) before.local ∙ c.one.ensures.local;
    }

pub returns-in-Some : goal.returns-in-Some
returns-in-Some c =
    let before = c.loop-word.invariant in
    let now : Bor Text → Text = λ word. word.now in
    let old : App = app_of c.loop-word.command in
    let words : List Text = map now c.args.words.now in
    let none : drop c.loop-word.word-index c.args.words.now ≡ [] = drop_all c.loop-word.word-index c.args.words.now c.loop-word-test.false in
    let all = sym (ap (λ words. with_words old (map now words)) none) ∙ before.app in
    let rule = words_are c.one-in-Some.result c.num_args.result c.in-Some.word.now c.num_args.ensures.0 c.one-in-Some.ensures.rule c.num_args.ensures.1 in
    let local = words_local c.one-in-Some.result c.num_args.result c.num_args.ensures.0 c.one-in-Some.ensures.local in
    record {
      app = IfOk-weaker c.arg-in-Some.result _ _
          (λ command added. added.shape local ∙ ap (with_rule old) rule ∙ ap (λ command. with_rule command (words_rule c.in-Some.word.now)) all
          ∙ sym (ap (λ several. command_app c.args.name.now words (option_map now several)) c.in-Some.is)) c.arg-in-Some.ensures;
      local = IfOk-weaker c.arg-in-Some.result _ _
          (λ command added. added.globals ∙ ap (λ b. b || c.num_args.result.global) before.local ∙ local) c.arg-in-Some.ensures;
    }

pub returns-in-None : goal.returns-in-None
returns-in-None c =
    let now : Bor Text → Text = λ word. word.now in
    let words : List Text = map now c.args.words.now in
    let none : drop c.loop-word.word-index c.args.words.now ≡ [] = drop_all c.loop-word.word-index c.args.words.now c.loop-word-test.false in
    record {
      app = sym (ap (λ words. with_words (app_of c.loop-word.command) (map now words)) none) ∙ c.loop-word.invariant.app
          ∙ sym (ap (λ several. command_app c.args.name.now words (option_map now several)) c.in-None.is);
      local = c.loop-word.invariant.local;
    }
