use Rattle.ffv1_hold.proofs.Common.{[], sym, subst, ◌∙◌, append-nil, IsPartOfFile}
use Rattle.ffv1_hold.proofs.FaultLaws.{text_none, text_whole}
use Rattle.ffv1_hold.proofs.Returned.{refused_outside}
use Rattle.ffv1_hold.proofs.Unfinished.{part_shows_none}
use Rattle.ffv1_hold.proofs.laws.text_shows_no_fault.Goals as goal

pub returns-clause-text : goal.returns-clause-text
returns-clause-text c q v h is taken fits fault shown = shown.0 (refused_outside q v h is taken fits fault shown.1.0 shown.1.1)

pub returns-clause-beginnings : goal.returns-clause-beginnings
returns-clause-beginnings c q text held =
    let h = held.0 in
    let same = held.3.3 in (
      λ seen rest fault split shown. text_none q held.3.0 h held.1 held.2 held.3.1 held.3.2 [] seen rest fault (append-nil _ ∙ sym same ∙ split) shown,
      λ part. text_whole q held.3.0 h held.1 held.2 held.3.1 held.3.2 [] (subst (IsPartOfFile q) (same ∙ sym (append-nil _)) part),
    )

pub returns-clause-unfinished : goal.returns-clause-unfinished
returns-clause-unfinished c q part seen rest fault is split shown = part_shows_none q fault part seen rest split is shown
