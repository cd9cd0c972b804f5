-- A command over readers and writers that wraps them as sources and sinks: what it leaves unchanged.
use Rattle.std.proofs.Common.{◌≡◌, ◌∙◌, sym, ap, Result, Ok, Err, IfErr}
use Rattle.std.specs.Borrow.{MutBor}
use Rattle.ffv1_devices.specs.Streams.{reader_of, writer_of}
use Rattle.ffv1_devices.specs.declared.streams.FromRead.{FromRead}
use Rattle.ffv1_devices.specs.declared.streams.ThroughWrite.{ThroughWrite}
use Rattle.ffv1_commands.specs.Devices.{UnlessWriting, IfOfRecord}
use Rattle.ffv1_commands.specs.declared.fault.CliFault.{CliFault}
use Rattle.ffv1_commands.specs.declared.fault.CliFault.TheVariants as faults

module _ (P Q : Type 0) where
  unless_writing_at : (fault : CliFault) → (P → Q) → UnlessWriting fault P → UnlessWriting fault Q
  unless_writing_at (faults.Write path) then kept = tt
  unless_writing_at fault then kept = then kept

  pub unless_writing : {T : Type 0} (r : Result T CliFault) → (P → Q) → IfErr r (λ fault. UnlessWriting fault P) → IfErr r (λ fault. UnlessWriting fault Q)
  unless_writing (Ok done) then kept = tt
  unless_writing (Err fault) then kept = unless_writing_at fault then kept

  if_of_record_at : (fault : CliFault) → (P → Q) → IfOfRecord fault P → IfOfRecord fault Q
  if_of_record_at (faults.Read path) then kept = λ first. then (kept first)
  if_of_record_at (faults.Setup fault) then kept = then kept
  if_of_record_at fault then kept = tt

  pub if_of_record : {T : Type 0} (r : Result T CliFault) → (P → Q) → IfErr r (λ fault. IfOfRecord fault P) → IfErr r (λ fault. IfOfRecord fault Q)
  if_of_record (Ok done) then kept = tt
  if_of_record (Err fault) then kept = if_of_record_at fault then kept

-- outputs that the wrappers say are as they were are
pub one_through : {T W : Type 0} (r : Result T CliFault) (old new : ThroughWrite W) (w : W) → writer_of old ≡ w
    → IfErr r (λ fault. UnlessWriting fault (new ≡ old)) → IfErr r (λ fault. UnlessWriting fault (writer_of new ≡ w))
one_through r old new w is kept = unless_writing (new ≡ old) (writer_of new ≡ w) r (λ same. ap writer_of same ∙ is) kept

pub both_through : {T O W : Type 0} (r : Result T CliFault) (out out' : ThroughWrite O) (output output' : ThroughWrite W) (o : O) (w : W)
    → writer_of out ≡ o → writer_of output ≡ w → IfErr r (λ fault. UnlessWriting fault ((out' ≡ out) × (output' ≡ output)))
    → IfErr r (λ fault. UnlessWriting fault ((writer_of out' ≡ o) × (writer_of output' ≡ w)))
both_through r out out' output output' o w made printed kept =
    unless_writing ((out' ≡ out) × (output' ≡ output)) ((writer_of out' ≡ o) × (writer_of output' ≡ w)) r
    (λ same. (ap writer_of same.0 ∙ made, ap writer_of same.1 ∙ printed)) kept

-- so is an input that is read after the record, of which this is left
module _ {T R : Type 0} (r : Result T CliFault) (old new : FromRead (MutBor R)) (reader : MutBor R) (left : R) where
  pub reader_kept : reader_of old ≡ reader → (reader.ghost_name ≡ (reader_of new).ghost_name → left ≡ (reader_of new).now)
      → IfErr r (λ fault. IfOfRecord fault (new ≡ old)) → IfErr r (λ fault. IfOfRecord fault (left ≡ reader.now))
  reader_kept is leaves kept = if_of_record (new ≡ old) (left ≡ reader.now) r (λ same.
      let here : reader_of new ≡ reader = ap reader_of same ∙ is in
      leaves (ap (λ (b : MutBor R). b.ghost_name) (sym here)) ∙ ap (λ (b : MutBor R). b.now) here) kept
