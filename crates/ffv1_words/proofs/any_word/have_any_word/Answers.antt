use Rattle.std.proofs.Common.{codes, sym, ◌∙◌, subst, refl}
use Rattle.std.proofs.lemmas.Slice.Eq.{slice_eq-Decides}
use Rattle.std.proofs.lemmas.Bool.Decides.{Decides-eqb}
use Rattle.ffv1_words.specs.AnyWords.{IsOfHoldingFiles}
use Rattle.ffv1_words.proofs.AnyWord.{any_word_by_places}
use Rattle.ffv1_words.proofs.any_word.have_any_word.Goals as goal

pub returns-then-is_of_holding_files : goal.returns-then-is_of_holding_files
returns-then-is_of_holding_files c =
    let places = any_word_by_places c.args.words.now c.command-item.result c.word-item.result c.in-len3-up.len_at_least c.command-item.is c.word-item.is in
    let is = slice_eq-Decides Decides-eqb c.as_str.result.now (codes "--any") _ c.eq.ensures in
    let named = subst (λ text. IsOfHoldingFiles text) c.deref.ensures (c.if-is_of_holding_files.ensures.0 refl) in (
      λ holds. places.1 (named, sym c.as_str.ensures.value ∙ is.0 holds),
      λ some. is.1 (c.as_str.ensures.value ∙ (places.0 some).1),
    )
