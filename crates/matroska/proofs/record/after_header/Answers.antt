use Rattle.std.proofs.Common.{ap, drop, length, min, arith, ◌≡◌, ◌∙◌}
use Rattle.std.proofs.lemmas.List.{drop_min, take_rest}
use Rattle.matroska.specs.Tracks.{bitmap_header_length}
use Rattle.matroska.proofs.record.after_header.Goals as goal

pub returns : goal.returns
returns c =
    let private = c.args.private.now in
    let same : c.min.result ≡ min bitmap_header_length (length c.args.private.now) = omega (arith, c.min.ensures) in
    take_rest c.args.private.now c.min.result ∙ ap (λ n. drop n c.args.private.now) same ∙ drop_min bitmap_header_length c.args.private.now
