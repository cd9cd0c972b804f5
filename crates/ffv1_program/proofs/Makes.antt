-- What a command returns for which its file is made after all was done.
use Rattle.std.proofs.Common.{◌≡◌, ◌⊎◌, inl, inr, ℕ, List, Option, Bool, Result, Ok, Err, IfOk, IfErr, refl, sym, subst}
use Rattle.ffv1_files.specs.Once.{OpensOnce}
use Rattle.ffv1_files.specs.declared.once.Once.{Once}
use Rattle.ffv1_files.specs.declared.once.Once.TheVariants as once
use Rattle.ffv1_commands.specs.Devices.{IsWrittenIfTouched}
use Rattle.ffv1_commands.specs.declared.fault.CliFault.{CliFault}
use Rattle.ffv1_commands.specs.declared.fault.CliFault.TheVariants as faults
use Rattle.ffv1_commands.specs.declared.path.CommandPath.TheVariants as paths
use Rattle.ffv1_program.specs.Splicing.{IsUnmade}
use Rattle.ffv1_program.specs.Unwritten.{IfUnwritten, OfOutputs}
use Rattle.ffv1_program.proofs.Unwritten.{out_also}

-- The fault is that of what was done, which leaves the file as it was; or all was done, but the file was not made.
abbrev pub IsAfter : (done result : Result Bool CliFault) (Kept Failed : Type 0) → Type 0
IsAfter done result Kept Failed = IfErr result (λ fault. ((done ≡ Err fault) × Kept) ⊎ IsUnmade Failed (λ value. done ≡ Ok value) fault)

-- what holds where the file was made holds beside what was done
pub made_ok : (done result : Result Bool CliFault) (Done : Bool → Type 0) (Made : Type 0) → IfOk result (λ value. (done ≡ Ok value) × Made)
    → IfOk done Done → IfOk result (λ value. Made × Done value)
made_ok done (Ok value) Done Made is did = (is.1, subst (λ done. IfOk done Done) is.0 did)
made_ok done (Err fault) Done Made is did = tt

pub made_err : (done result : Result Bool CliFault) (Kept Failed : Type 0) (Refused Stops : CliFault → Type 0) (Done : Bool → Type 0) → IsAfter done result Kept Failed
    → IfOk done Done → IfErr done Stops → IfErr result (λ fault. Refused fault ⊎ Stops fault ⊎ IsUnmade Failed Done fault)
made_err done (Ok value) Kept Failed Refused Stops Done after did stops = tt
made_err done (Err fault) Kept Failed Refused Stops Done (inl (is, kept)) did stops = inr (inl (subst (λ done. IfErr done Stops) is stops))
made_err done (Err fault) Kept Failed Refused Stops Done (inr (is, failed, (value, same))) did stops =
    inr (inr (is, failed, (value, subst (λ done. IfOk done Done) same did)))

-- what a fault rests on that says that the file was not written: that of what was done, or that the file was not made
pub made_unwritten : (Went Failed Out Printed Kept : Type 0) (done result : Result Bool CliFault) → IsAfter done result Kept Failed
    → (Went → Out) → (Failed → Out) → IfErr done (IfUnwritten (OfOutputs Went Printed)) → IfErr result (IfUnwritten (OfOutputs Out Printed))
made_unwritten Went Failed Out Printed Kept done (Ok value) after written unmade lost = tt
made_unwritten Went Failed Out Printed Kept done (Err fault) (inl (is, kept)) written unmade lost =
    out_also Went Out Printed fault written (subst (λ done. IfErr done (IfUnwritten (OfOutputs Went Printed))) is lost)
made_unwritten Went Failed Out Printed Kept done (Err fault) (inr (is, failed, all)) written unmade lost =
    subst (IfUnwritten (OfOutputs Out Printed)) (sym is) (unmade failed)

-- what a fault left as it was, and the file that was not made
pub made_kept : {O : Type 0} (Failed : Type 0) (done result : Result Bool CliFault) (old then new : O) (P : Type 0) (Unless : CliFault → Type 0 → Type 0)
    → IsAfter done result (new ≡ then) Failed → ((Q : Type 0) → Unless (faults.Write paths.Out) Q) → IfErr done (λ fault. Unless fault ((then ≡ old) × P))
    → IfErr result (λ fault. Unless fault ((new ≡ old) × P))
made_kept Failed done (Ok value) old then new P Unless after unmade holds = tt
made_kept Failed done (Err fault) old then new P Unless (inl (is, kept)) unmade holds =
    subst (λ made. Unless fault ((made ≡ old) × P)) (sym kept) (subst (λ done. IfErr done (λ fault. Unless fault ((then ≡ old) × P))) is holds)
made_kept Failed done (Err fault) old then new P Unless (inr (is, failed, all)) unmade holds =
    subst (λ fault. Unless fault ((new ≡ old) × P)) (sym is) (unmade _)

-- what holds of a fault of what was done, and of one of writing the file
pub made_says : (Failed : Type 0) (done result : Result Bool CliFault) (Kept : Type 0) (P : CliFault → Type 0) → IsAfter done result Kept Failed → P (faults.Write paths.Out)
    → IfErr done P → IfErr result P
made_says Failed done (Ok value) Kept P after unmade holds = tt
made_says Failed done (Err fault) Kept P (inl (is, kept)) unmade holds = subst (λ done. IfErr done P) is holds
made_says Failed done (Err fault) Kept P (inr (is, failed, all)) unmade holds = subst P (sym is) unmade

-- the file is as it was, or some bytes were written to it
pub made_touched : {O : Type 0} (Failed : Type 0) (contents : O → Option (List ℕ)) (done result : Result Bool CliFault) (old then new : O) → IsAfter done result (new ≡ then) Failed
    → IfErr done (IsWrittenIfTouched paths.Out (then ≡ old) (contents old) (contents then))
    → IfErr result (IsWrittenIfTouched paths.Out (new ≡ old) (contents old) (contents new))
made_touched Failed contents done (Ok value) old then new after touched = tt
made_touched Failed contents done (Err fault) old then new (inl (is, kept)) touched =
    subst (λ made. IsWrittenIfTouched paths.Out (made ≡ old) (contents old) (contents made) fault) (sym kept)
    (subst (λ done. IfErr done (IsWrittenIfTouched paths.Out (then ≡ old) (contents old) (contents then))) is touched)
made_touched Failed contents done (Err fault) old then new (inr (is, failed, all)) touched = inl is

-- a fault that comes before: the words are refused, or there is none to begin with
pub later_err : (result : Result Bool CliFault) (Refused Before Stops Unmade : CliFault → Type 0) → IfErr result (λ fault. Refused fault ⊎ Stops fault ⊎ Unmade fault)
    → IfErr result (λ fault. Refused fault ⊎ Before fault ⊎ Stops fault ⊎ Unmade fault)
later_err (Ok value) Refused Before Stops Unmade stops = tt
later_err (Err fault) Refused Before Stops Unmade (inl refused) = inl refused
later_err (Err fault) Refused Before Stops Unmade (inr stops) = inr (inr stops)

-- nothing was written, unless something was begun
pub made_begun : {O : Type 0} (Failed : Type 0) (done result : Result Bool CliFault) (old then new : O) (P Q : Type 0) → IsAfter done result (new ≡ then) Failed
    → IfErr done (λ _. ((then ≡ old) × P) ⊎ Q) → IfErr result (λ fault. (fault ≡ faults.Write paths.Out) ⊎ ((new ≡ old) × P) ⊎ Q)
made_begun Failed done (Ok value) old then new P Q after begun = tt
made_begun Failed done (Err fault) old then new P Q (inl (is, kept)) begun =
    inr (subst (λ made. ((made ≡ old) × P) ⊎ Q) (sym kept) (subst (λ done. IfErr done (λ _. ((then ≡ old) × P) ⊎ Q)) is begun))
made_begun Failed done (Err fault) old then new P Q (inr (is, failed, all)) begun = inl is

-- a file that could not be opened can't be opened as it is
pub stays_unmade : {O F E : Type 0} (opens : O → Result F E → Type 0) (old : Once O F) (result : Result (Unit {0}) E) (new : Once O F)
    → OpensOnce opens old result new → IfErr result (λ _. (error : E) × OpensOnce opens new (Err error) new)
stays_unmade opens old (Ok done) new is = tt
stays_unmade opens (once.Unopened opener) (Err error) new (tried, same) =
    (error, subst (λ file. OpensOnce opens file (Err error) file) (sym same) (tried, refl))
stays_unmade opens (once.Open file) (Err error) new is = absurd is
stays_unmade opens once.Closed (Err error) new is = absurd is
