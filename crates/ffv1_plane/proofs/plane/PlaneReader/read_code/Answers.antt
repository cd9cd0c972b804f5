use Rattle.std.proofs.Common.{◌≡◌, ◌≤◌, nat_abs, arith, rules, refl, ap, w32, subst, sym, ◌<◌, ◌^◌}
use mir.Val.{SFits}
use Rattle.std.proofs.lemmas.Int.{to_z-of_z}
use Rattle.ffv1_rice.specs.States.{IsCodedDepth}
use Rattle.ffv1_plane.specs.Inner.Readers.{coding_of}
use Rattle.ffv1_plane.proofs.Reading.{sample_read_at, code_halted_at}
use Rattle.ffv1_plane.proofs.plane.PlaneReader.read_code.Goals as goal

pub overflow_cast-unsigned_abs : goal.overflow_cast-unsigned_abs
overflow_cast-unsigned_abs c = omega (arith, c.unsigned_abs.ensures.bound)

pub index_mut-state-requires : goal.index_mut-state-requires
index_mut-state-requires c =
    let f : SFits w32 c.args.context = c.ranges.context in
    let i_is : c.unsigned_abs.result ≡ nat_abs c.args.context = (simp to_z-of_z at c.unsigned_abs.ensures.value) in
    omega (arith, i_is, c.requires.below, c.args.self.now.states.ok.0)

pub sample_of-sample-requires : goal.sample_of-sample-requires
sample_of-sample-requires c = let g : SFits w32 c.in-Ok.difference = search rules in record {
  depth = subst IsCodedDepth (sym c.requires.depth) c.depth-depth.ensures.deep;
  range = rw (to_z-of_z w32 c.in-Ok.difference g) c.in-Ok.ensures.range.0;
}

pub push-requires : goal.push-requires
push-requires c = record {
  inside = c.requires.inside;
  small = subst (λ n. c.sample_of-sample.result < 2 ^ n) c.requires.depth c.sample_of-sample.ensures.small;
}

pub returns : goal.returns
returns c =
    let f : SFits w32 c.args.context = c.ranges.context in
    let g : SFits w32 c.in-Ok.difference = search rules in
    let some : 1 ≤ c.args.self.now.lines.width = omega (arith, c.requires.inside) in
    let i_is : c.unsigned_abs.result ≡ nat_abs c.args.context = (simp to_z-of_z at c.unsigned_abs.ensures.value) in
    record {
      same = record { depth = ap (λ r. r.depth) c.push.ensures.value; width = ap (λ r. r.width) c.push.ensures.value; tables = refl; states = search rules };
      index = refl;
      moved = ap (λ r. r.x) c.push.ensures.value;
      left = c.push.ensures.left;
      read =
          sample_read_at c.args.self.now.lines.width (coding_of c.args.self.now) c.args.level c.args.self.now.lines.samples c.push.new.self.samples
          c.args.self.now.states.items c.args.self.now.bits c.decode_at.new.bits
          c.args.near.now c.args.context _ c.in-Ok.difference _ c.sample_of-sample.result c.unsigned_abs.result c.prediction-prediction.result c.index_mut-state.result.now
          c.decode_at.new.self
          some c.requires.near c.requires.context c.prediction-prediction.ensures.value (to_z-of_z w32 c.args.context f)
          (to_z-of_z w32 c.in-Ok.difference g) (rw c.requires.depth at c.sample_of-sample.ensures.value)
          (ap (λ r. r.samples) c.push.ensures.value) (rw c.requires.depth at c.in-Ok.ensures.range)
          i_is (omega (arith, i_is, c.requires.below)) c.index_mut-state.ensures.value (rw c.requires.depth at c.in-Ok.ensures.ok)
          (rw c.requires.depth at c.in-Ok.ensures.state);
      err = tt;
    }

pub returns-in-Err : goal.returns-in-Err
returns-in-Err c =
    let f : SFits w32 c.args.context = c.ranges.context in
    let i_is : c.unsigned_abs.result ≡ nat_abs c.args.context = (simp to_z-of_z at c.unsigned_abs.ensures.value) in
    record {
      same = record { depth = refl; width = refl; tables = refl; states = search rules };
      index = refl;
      moved = tt;
      left = tt;
      read = tt;
      err =
          code_halted_at c.args.self.now.lines.width (coding_of c.args.self.now) c.args.level c.args.self.now.lines.samples c.args.self.now.states.items
          c.args.self.now.bits.left
          c.args.near.now c.args.context c.unsigned_abs.result _ c.index_mut-state.result.now _
          c.requires.near c.requires.context i_is (omega (arith, i_is, c.requires.below)) c.index_mut-state.ensures.value
          (rw c.requires.depth at c.in-Err.ensures.err) (search rules);
    }
