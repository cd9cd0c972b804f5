use Rattle.ffv1_plane.proofs.Fronts.{each_is_spelled, stuck_on}
use Rattle.ffv1_plane.proofs.tile.each_is_spelled.Goals as goal

pub returns-clause-spelled : goal.returns-clause-spelled
returns-clause-spelled c = λ setup head planes sizes. each_is_spelled setup head planes

pub returns-clause-fronts : goal.returns-clause-fronts
returns-clause-fronts c = λ setup tile content head place planes fault plane y x front profile inside is_head of_tile sizes stuck.
    let all = stuck_on setup head planes _ fault plane y x front stuck in
    record {
      head = head;
      place = place;
      is_head = is_head;
      of_tile = of_tile;
      planes = planes;
      sizes = sizes;
      words = all.words;
      spells = all.spells;
      front = front;
      later = all.later;
      begins = all.begins;
      stuck = stuck;
    }
