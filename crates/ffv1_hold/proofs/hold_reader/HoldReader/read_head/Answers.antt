use Rattle.ffv1_hold.proofs.Common.{[], inl, subst, arith, err_from_is_err_and, Never, StopsAt, IsPartOfMagic, MagicShows, IsPartOfHead, HeadIsWhole, HeadShows}
use Rattle.ffv1_hold.proofs.TextReads.{TakesText-from, TakesText-nil, StopsAt-after}
use Rattle.ffv1_hold.proofs.Heads.{head_read, reel_of_file, version_of_file}
use Rattle.ffv1_hold.proofs.hold_reader.HoldReader.read_head.Goals as goal

pub returns-clause-read : goal.returns-clause-read
returns-clause-read g c =
    let m = c.in_ok-magic.magic in
    let after = c.read_reel.ensures in
    head_read c.args.recordings m.of_profile m.version c.in_ok-magic.ensures.is_magic _ _ _ _ _ _
    (TakesText-from _ _ _ _ _ _ c.requires c.in_ok-magic.ensures.read) c.read_reel.result after.read after.reel

pub returns-clause-reel : goal.returns-clause-reel
returns-clause-reel g c =
    let m = c.in_ok-magic.magic in
    reel_of_file c.args.recordings m.of_profile m.version c.in_ok-magic.ensures.is_magic c.read_reel.result c.read_reel.ensures.reel

pub returns-clause-has : goal.returns-clause-has
returns-clause-has g c =
    let m = c.in_ok-magic.magic in
    version_of_file c.args.recordings m.of_profile m.version c.in_ok-magic.ensures.is_magic c.read_reel.result c.read_reel.ensures.reel

pub returns-in_err-magic-clause-read : goal.returns-in_err-magic-clause-read
returns-in_err-magic-clause-read g c =
    let p = err_from_is_err_and c.from_residual.result c.from_residual.ensures.1 in
    let q = c.args.recordings in
    let before = g.S.Source.log c.args.source.now in
    let after = g.S.Source.log c.read_magic.new.source in
    let f = c.in_err-magic.field-0.0 in
    let stops : StopsAt (IsPartOfMagic q) Never (MagicShows q) before after 0 f =
    subst (λ n. StopsAt (IsPartOfMagic q) Never (MagicShows q) before after n f) c.requires c.in_err-magic.ensures.read in
    rw (p.1, p.2) (StopsAt-after (IsPartOfMagic q) (IsPartOfHead q) Never (HeadIsWhole q) (MagicShows q) (HeadShows q) before before after 0 0 []
    (TakesText-nil before 0 (omega arith)) f stops (λ s h. inl h) (λ f s h. absurd h) (λ f s h. inl h))
