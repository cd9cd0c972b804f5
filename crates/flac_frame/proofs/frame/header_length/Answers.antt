use Rattle.std.proofs.lemmas.Bool.{iff_false}
use Rattle.flac_frame.proofs.Headers.{goes_on, too_short, no_number}
use Rattle.flac_frame.proofs.frame.header_length.Goals as goal
use Rattle.flac_frame.proofs.frame.header_length.Goals.{else-number-gt0-via-then-number-gt0+then-has_room+then-are_in_use+else-go_on, else-number-gt0-via-then-number-gt0+then-has_room+else-are_in_use, else-number-gt0-via-then-number-gt0+else-has_room, else-number-gt0-via-else-number-gt0}

pub returns : goal.returns
returns c = λ header.
    elim c.else-number-gt0.branch [
      | else-number-gt0-via-then-number-gt0+then-has_room+then-are_in_use+else-go_on w ↦ iff_false w.go_on.ensures w.if-go_on.false (goes_on c.args.frame.now _ header c.number_length-number.ensures)
      | else-number-gt0-via-then-number-gt0+then-has_room+else-are_in_use w ↦
          iff_false w.are_in_use.ensures w.if-are_in_use.false (header.block_size, header.sample_rate, header.channels, header.bit_depth, header.reserved)
      | else-number-gt0-via-then-number-gt0+else-has_room w ↦
          too_short c.args.frame.now _ _ _ header c.number_length-number.ensures c.block_size_length.ensures c.sample_rate_length.ensures w.if-has_room.false
      | else-number-gt0-via-else-number-gt0 w ↦ no_number c.args.frame.now _ header c.number_length-number.ensures w.if-number-gt0.false
    ]
