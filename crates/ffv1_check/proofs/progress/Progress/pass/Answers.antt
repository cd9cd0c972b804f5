use Rattle.std.proofs.Common.{◌≡◌, arith, length, sym, subst, [], ◌∷◌, ◌++◌}
use Rattle.ffv1_check.specs.Inner.Stands.{EachStands}
use Rattle.ffv1_check.proofs.TrackSteps.{written, bytes_more}
use Rattle.ffv1_check.proofs.progress.Progress.pass.Goals as goal

pub returns-clause-stands : goal.returns-clause-stands
returns-clause-stands c = λ parts stands. record {
  checked = omega (arith, c.part_bytes.ensures, stands.checked, bytes_more parts c.args.part.now);
  tops = c.after-self.ensures parts stands.tops;
  tracks =
      let kept : length c.pass_part.new.tracks ≡ length c.args.self.now.tracks.items = omega arith in
      let long : c.args.self.now.tracks.len ≡ length c.args.self.now.tracks.items = omega arith in
      subst (EachStands (parts ++ c.args.part.now ∷ [])) (sym (written c.pass_part.new.tracks c.args.self.now.tracks.items c.args.self.now.tracks.len kept long))
      (c.pass_part.ensures parts (subst (EachStands parts) (sym c.deref_mut.ensures.value) stands.tracks) stands.tops.timestamp);
}
