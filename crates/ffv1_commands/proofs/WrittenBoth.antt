-- What writing the file OUT and then a text says of both.
use Rattle.std.proofs.Common.{ℕ, List, Result, Ok, Err, IfErr, inl, inr, refl, sym, subst}
use Rattle.std.specs.Io.KnownBytes.{Keeps}
use Rattle.std.proofs.KnownBytes.{Keeps-refl}
use Rattle.ffv1_devices.specs.Logs.{WriteLog, Writes}
use Rattle.ffv1_commands.specs.Devices.{UnlessWriting, IfOfRecord, WriteStops, BothStop}
use Rattle.ffv1_commands.specs.Inner.Devices.{WritesNamed, WritesBoth}
use Rattle.ffv1_commands.specs.declared.fault.CliFault.{CliFault}
use Rattle.ffv1_commands.specs.declared.fault.CliFault.TheVariants as faults
use Rattle.ffv1_commands.specs.declared.path.CommandPath.{CommandPath}
use Rattle.ffv1_commands.specs.declared.path.CommandPath.TheVariants as paths

module _ (file text : List ℕ) (a b c d : WriteLog) where
  -- the file was written, and then the text or a front of it
  pub then_text : {T : Type 0} (r : Result T CliFault) → Writes a b file → WritesNamed paths.StandardOutput r c d text → WritesBoth r file text a b c d
  then_text (Ok x) wrote printed = (wrote, printed)
  then_text (Err f) wrote (is, stopped) = subst (λ (f : CliFault). BothStop f file text a b c d) (sym is) (inr (refl, wrote, stopped))

  -- any fact of a fault of writing
  pub both_says : (P : CliFault → Type 0) → ((named : CommandPath) → BothStop (faults.Write named) file text a b c d → P (faults.Write named))
      → (f : CliFault) → BothStop f file text a b c d → P f
  both_says P says (faults.Write named) stops = says named stops
  both_says P says fault stops = absurd stops

  -- the same fault by the bytes of both
  pub both_stop_bytes : (named : CommandPath) → BothStop (faults.Write named) file text a b c d
      → WriteStops file text a.contents b.contents c.contents d.contents (faults.Write named)
  both_stop_bytes named (inl (is, stopped, kept)) =
      inl (is, stopped.front, subst (λ (log : WriteLog). Keeps c.contents log.contents) (sym kept) (Keeps-refl c.contents))
  both_stop_bytes named (inr (is, wrote, stopped)) = inr (is, wrote.bytes', stopped.front)

  -- it names one of both
  pub both_name : (IsPath : CommandPath → Type 0) → IsPath paths.Out → IsPath paths.StandardOutput → (named : CommandPath)
      → BothStop (faults.Write named) file text a b c d → IsPath named
  both_name IsPath out printed named (inl stops) = subst IsPath (sym stops.0) out
  both_name IsPath out printed named (inr stops) = subst IsPath (sym stops.0) printed

  -- nothing else is said to be untouched
  pub both_untouched : {T : Type 0} (P : Type 0) (r : Result T CliFault) → WritesBoth r file text a b c d → IfErr r (λ fault. UnlessWriting fault P)
  both_untouched P (Ok x) wrote = tt
  both_untouched P (Err f) stops = both_says (λ fault. UnlessWriting fault P) (λ named at. tt) f stops

  pub both_in_turn : {T : Type 0} (P : Type 0) (r : Result T CliFault) → WritesBoth r file text a b c d → IfErr r (λ fault. IfOfRecord fault P)
  both_in_turn P (Ok x) wrote = tt
  both_in_turn P (Err f) stops = both_says (λ fault. IfOfRecord fault P) (λ named at. tt) f stops
