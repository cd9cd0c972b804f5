-- What a command returns, by what it calls.
use Rattle.std.proofs.Common.{◌≡◌, ◌⊎◌, inl, inr, List, ℕ, Bool, true, Result, Ok, Err, IfOk, IfErr, MatchResult, OnOk, refl}
use Rattle.ffv1_devices.specs.Logs.{WriteLog}
use Rattle.ffv1_devices.specs.Results.{WritesAll}
use Rattle.ffv1_devices.specs.Touching.{WritesIfTouched}
use Rattle.ffv1_devices.specs.declared.writes.WriteFailed.{WriteFailed}
use Rattle.ffv1_commands.specs.Devices.{IsWrittenIfTouched}
use Rattle.ffv1_commands.specs.declared.fault.CliFault.{CliFault}
use Rattle.ffv1_commands.specs.declared.fault.CliFault.TheVariants as faults
use Rattle.ffv1_commands.specs.Fault.{NamesPath}
use Rattle.ffv1_commands.specs.declared.path.CommandPath.{CommandPath}
use Rattle.ffv1_commands.specs.declared.path.CommandPath.TheVariants as paths
use Rattle.ffv1_program.specs.Running.{IsAsPromised, prints_text, printed_by}
use Rattle.ffv1_program.specs.Inner.Calls.{all_done}

-- what holds of what was done, and of its fault
pub all_ok : (done : Result (Unit {0}) CliFault) (P : Type 0) → OnOk done P → IfOk (all_done done) (λ value. (value ≡ true) × P)
all_ok (Ok value) P holds = (refl, holds)
all_ok (Err fault) P holds = tt

pub all_err : (done : Result (Unit {0}) CliFault) (P : CliFault → Type 0) → IfErr done P → IfErr (all_done done) P
all_err (Ok value) P holds = tt
all_err (Err fault) P holds = holds

-- a fault names no paths but these, which are those
pub names_so : {T : Type 0} (P Q : CommandPath → Type 0) (result : Result T CliFault) → ((path : CommandPath) → P path → Q path) → IfErr result (NamesPath P)
    → IfErr result (NamesPath Q)
names_so P Q (Ok value) then named = tt
names_so P Q (Err (faults.Read path)) then named = then path named
names_so P Q (Err (faults.Write path)) then named = then path named
names_so P Q (Err (faults.Splice path)) then named = then path named
names_so P Q (Err fault) then named = tt

-- two facts of a fault
pub err_both : {T : Type 0} (result : Result T CliFault) (P Q : CliFault → Type 0) → IfErr result P → IfErr result Q → IfErr result (λ fault. P fault × Q fault)
err_both (Ok value) P Q first second = tt
err_both (Err fault) P Q first second = (first, second)

-- that a text was printed is returned as `true`, and a failure as the fault of standard output
abbrev pub IsAllPrinted : Result (Unit {0}) WriteFailed → Result Bool CliFault → Type 0
IsAllPrinted done result = MatchResult done (λ _. result ≡ Ok true) (λ _. result ≡ Err (faults.Write paths.StandardOutput))

-- a text that is printed, or stops
pub text_as_promised : {Output : Type 0} (text : List ℕ) (log : Output → WriteLog) (old new : Output) (done : Result (Unit {0}) WriteFailed)
    (result : Result Bool CliFault) → IsAllPrinted done result → WritesAll done (log old) (log new) text
    → IsAsPromised (prints_text text (printed_by log old new)) (λ path. path ≡ paths.StandardOutput) result
text_as_promised text log old new (Ok value) result is wrote =
    rw is (record { does = (refl, wrote.bytes'); stops = tt; keeps = tt; unread = tt; unwritten = tt; refuses = tt; names = tt })
text_as_promised text log old new (Err failed) result is breaks =
    rw is (record { does = tt; stops = (refl, breaks.front); keeps = tt; unread = tt; unwritten = breaks.tries'; refuses = tt; names = refl })

-- a sink that was not touched before its first byte, by what it holds
pub touched_bytes : {T Output : Type 0} (path : CommandPath) (log : Output → WriteLog) (old new : Output) (result : Result T CliFault)
    → IfErr result (λ fault. (fault ≡ faults.Write path) ⊎ WritesIfTouched log old new)
    → IfErr result (IsWrittenIfTouched path (new ≡ old) (log old).contents (log new).contents)
touched_bytes path log old new (Ok value) touched = tt
touched_bytes path log old new (Err fault) (inl failed) = inl failed
touched_bytes path log old new (Err fault) (inr (inl same)) = inr (inl same)
touched_bytes path log old new (Err fault) (inr (inr (bytes, some, wrote))) = inr (inr (bytes, some, wrote.bytes'))
