use Rattle.ffv1_hold.proofs.Common.{◌++◌, arith, refl, sym, subst, err_from_is_err_and, be4, TakesText, IsShorter, Never, IsPartOfReel, ReelIsWhole, ReelShows}
use Rattle.ffv1_hold.proofs.TextReads.{TakesText-trans, TakesText-four, StopsAt-after, shown}
use Rattle.ffv1_hold.proofs.Heads.{part_of_height, part_of_count, part_of_config, sized_record-of, reel_judged}
use Rattle.ffv1_hold.proofs.head.read_reel.Goals as goal

pub returns-in_err-height-clause-read : goal.returns-in_err-height-clause-read
returns-in_err-height-clause-read g c =
    let p = err_from_is_err_and c.from_residual-in_err-height.result c.from_residual-in_err-height.ensures.1 in
    rw (p.1, p.2) (StopsAt-after (IsShorter 4) IsPartOfReel Never (ReelIsWhole c.args.of_profile) Never (ReelShows c.args.of_profile) _ _ _ _ _ (be4 c.in_ok-width.width)
    c.in_ok-width.ensures _ c.in_err-height.ensures (part_of_height c.in_ok-width.width) (λ f s h. absurd h) (λ f s h. absurd h))

pub returns-in_err-length-clause-read : goal.returns-in_err-length-clause-read
returns-in_err-length-clause-read g c =
    let p = err_from_is_err_and c.from_residual-in_err-length.result c.from_residual-in_err-length.ensures.1 in
    rw (p.1, p.2) (StopsAt-after (IsShorter 4) IsPartOfReel Never (ReelIsWhole c.args.of_profile) Never (ReelShows c.args.of_profile) _ _ _ _ _ (be4 c.in_ok-width.width ++ be4 c.in_ok-height.height)
    (TakesText-trans _ _ _ _ _ _ _ _ c.in_ok-width.ensures c.in_ok-height.ensures) _ c.in_err-length.ensures (part_of_count c.in_ok-width.width c.in_ok-height.height) (λ f s h. absurd h) (λ f s h. absurd h))

pub returns-then-length-gt-RECORD_LIMIT-clause-read : goal.returns-then-length-gt-RECORD_LIMIT-clause-read
returns-then-length-gt-RECORD_LIMIT-clause-read g c =
    let size = TakesText-trans _ _ _ _ _ _ _ _ c.in_ok-width.ensures c.in_ok-height.ensures in
    shown _ _ _ _ _ _ _ _ (TakesText-trans _ _ _ _ _ _ _ _ size c.in_ok-length.ensures) _ tt
    (c.in_ok-width.width, c.in_ok-height.height, c.in_ok-length.length, refl, omega arith, omega arith)

pub returns-in_err-config-clause-read : goal.returns-in_err-config-clause-read
returns-in_err-config-clause-read g c =
    let p = err_from_is_err_and c.from_residual-in_err-config.result c.from_residual-in_err-config.ensures.1 in
    let w = c.in_ok-width.width in
    let h = c.in_ok-height.height in
    let n = c.in_ok-length.length in
    let size = TakesText-trans _ _ _ _ _ _ _ _ c.in_ok-width.ensures c.in_ok-height.ensures in
    rw (p.1, p.2) (StopsAt-after (IsShorter n) IsPartOfReel Never (ReelIsWhole c.args.of_profile) Never (ReelShows c.args.of_profile) _ _ _ _ _ (be4 w ++ be4 h ++ be4 n)
    (TakesText-trans _ _ _ _ _ _ _ _ size c.in_ok-length.ensures) _ c.in_err-config.ensures.read
    (λ s short. part_of_config w h n s (omega arith) short) (λ f s h. absurd h) (λ f s h. absurd h))

pub returns : goal.returns
returns g c =
    let w = c.in_ok-width.width in
    let h = c.in_ok-height.height in
    let n = c.in_ok-length.length in
    let config = c.in_ok-config.config.items in
    let all = TakesText-four c.in_ok-width.ensures c.in_ok-height.ensures c.in_ok-length.ensures c.in_ok-config.ensures.read in
    let whole = subst (TakesText _ _ _ _) (sized_record-of config w h n (sym c.in_ok-config.ensures.count)) all in
    record { read = reel_judged c.args.of_profile whole c.judge_reel.result c.judge_reel.ensures.text c.judge_reel.ensures.fault; reel = c.judge_reel.ensures.reel }
