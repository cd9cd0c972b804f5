-- Copies that are read and spliced, and what a fault of the command `splice` says.
use Rattle.std.proofs.Common.{◌≡◌, ℕ, ◌<◌, Bool, List, [], ◌∷◌, ◌++◌, length, map, Option, Result, Ok, Err, IfOk, IfErr, inl, inr, refl, sym, ap, ◌∙◌, subst, arith}
use Rattle.std.specs.Prelude.{◌↔◌, IsTrue}
use Rattle.std.proofs.lemmas.List.{length-map, map-append}
use Rattle.ffv1_devices.specs.Logs.{WriteLog, Writes}
use Rattle.ffv1_splice.specs.Splice.{SplicedValue, IsSpliceOf, IsGivenBack}
use Rattle.ffv1_splice.specs.Faults.{IsOfOtherLength}
use Rattle.ffv1_commands.specs.Devices.{AreWholeInputs, FileStops, BothStop}
use Rattle.ffv1_commands.specs.InTurn.{AreTaken, StopsAtCopy, IfCopyUnread}
use Rattle.ffv1_commands.specs.Fault.{NamesPath}
use Rattle.ffv1_commands.specs.Paths.{IsSplicePath}
use Rattle.ffv1_commands.specs.SpliceText.{splice_text, IsLengthFault, SplicesCopies, SpliceStops, LaterCopiesKept, WritesSplice, SpliceRefuses, ReportsSplice}
use Rattle.ffv1_commands.specs.declared.fault.CliFault.{CliFault}
use Rattle.ffv1_commands.specs.declared.fault.CliFault.TheVariants as faults
use Rattle.ffv1_commands.specs.declared.path.CommandPath.TheVariants as paths
use Rattle.ffv1_commands.proofs.InputLaws.{taken_whole, length-AreWholeInputs}
use Rattle.ffv1_commands.proofs.UnreadFiles.{file_says}
use Rattle.ffv1_commands.proofs.WrittenBoth.{both_says, both_stop_bytes, both_name}

-- what a function gives of the elements, and of one more
pub map_push : {X Y : Type 0} (f : X → Y) (xs ys : List X) (x : X) → ys ≡ xs ++ x ∷ [] → map f xs ++ f x ∷ [] ≡ map f ys
map_push f xs ys x same = sym (ap (map f) same ∙ map-append f xs (x ∷ []))

-- ---- what a fault says

-- any fact of a copy of another length, and of Memory
pub length_says : (copies : List (List ℕ)) (P : CliFault → Type 0) (fault : CliFault)
    → ((index : ℕ) → IsOfOtherLength copies index → P (faults.Splice (paths.Copy index))) → P faults.Memory → IsLengthFault copies fault → P fault
length_says copies P (faults.Splice path) other memory stops = subst (λ p. P (faults.Splice p)) (sym stops.2) (other stops.0 stops.1)
length_says copies P faults.Memory other memory stops = memory
length_says copies P fault other memory stops = absurd stops

-- a copy of another length, or Memory, leaves both outputs
pub length_refused : (copies : List (List ℕ)) (out output : WriteLog) (f : CliFault) → IsLengthFault copies f
    → SpliceRefuses copies out out output output f
length_refused copies out output f =
    length_says copies (SpliceRefuses copies out out output output) f (λ index is. ((index, is, refl), (refl, refl))) (refl, refl)

module _ (copies : List (List ℕ)) (out out' output output' : WriteLog) (spliced : SplicedValue) (is : IsSpliceOf copies spliced) (file text : List ℕ)
    (whole : file ≡ spliced.payload) (lines : text ≡ splice_text spliced) where
  -- the splice and its lines were written
  pub splices : (returned : Bool) → IsTrue returned ↔ IsGivenBack spliced → Writes out out' file → Writes output output' text
      → WritesSplice copies out out' output output' returned
  splices returned given wrote printed = record {
    spliced = spliced;
    is_splice = is;
    payload = subst (Writes out out') whole wrote;
    printed = subst (Writes output output') lines printed;
    given_back = given;
  }

  -- or not whole
  pub splice_stopped : (f : CliFault) → BothStop f file text out out' output output' → SpliceRefuses copies out out' output output' f
  splice_stopped = both_says file text out out' output output' (SpliceRefuses copies out out' output output') (λ named stops.
      let first = subst (λ (t : List ℕ). BothStop (faults.Write named) t text out out' output output') whole stops in
      (spliced, is, subst (λ (t : List ℕ). BothStop (faults.Write named) spliced.payload t out out' output output') lines first))

-- ---- once all copies were read

module _ {C : Type 0} (remaining : C → Option (List ℕ)) (old new : List C) (copies : List (List ℕ)) (out out' output output' : WriteLog)
    (taken : AreTaken (map remaining old) copies) where
  -- the splice and its lines were written, or the command stopped
  pub spliced_reported : (r : Result Bool CliFault) → IfOk r (WritesSplice copies out out' output output') → IfErr r (SpliceRefuses copies out out' output output')
      → ReportsSplice remaining r old new out out' output output'
  spliced_reported (Ok returned) wrote refuses = (copies, taken, wrote)
  spliced_reported (Err f) wrote refuses = inr (copies, taken, refuses)

-- no fault says that a copy was not read
pub refuses_read : {X : Type 0} (Went : X → X → Type 0) (old new : List X) (copies : List (List ℕ)) (out out' output output' : WriteLog)
    (r : Result Bool CliFault) → IfErr r (SpliceRefuses copies out out' output output') → IfErr r (IfCopyUnread Went old new)
refuses_read Went old new copies out out' output output' (Ok returned) refuses = tt
refuses_read Went old new copies out out' output output' (Err (faults.Read path)) refuses = absurd refuses
refuses_read Went old new copies out out' output output' (Err fault) refuses = tt

-- ---- the same of bytes

pub record SpliceOfBytes {C : Type 0} (r : Result Bool CliFault) (inputs : List (Option (List ℕ))) (old new : List C) (ob oa pb pa : Option (List ℕ)) :
    Type 0 where
  pub ok : IfOk r (SplicesCopies inputs ob oa pb pa)
  pub err : IfErr r (SpliceStops inputs ob oa pb pa)
  pub names : IfErr r (NamesPath (IsSplicePath (length old)))
  pub later_kept : IfErr r (LaterCopiesKept old new)

module _ {C : Type 0} (remaining : C → Option (List ℕ)) (old new : List C) (out out' output output' : WriteLog) where
  abbrev OfBytes : Result Bool CliFault → Type 0
  OfBytes r = SpliceOfBytes r (map remaining old) old new out.contents out'.contents output.contents output'.contents

  copy_bytes : (f : CliFault) → StopsAtCopy FileStops remaining old new f → OfBytes (Err f)
  copy_bytes f stops =
      let few : stops.index < length (map remaining old) = omega (arith, stops.there, length-map old remaining) in
      file_says (λ f. OfBytes (Err f)) (paths.Copy stops.index) _ stops.stopped.0
      (λ unread. record {
        ok = tt;
        err = (stops.index, record { there = few; copies = stops.copies; earlier = taken_whole _ stops.copies stops.earlier }, refl);
        names = stops.there;
        later_kept = (stops.index, refl, stops.later);
      })
      (λ within. record { ok = tt; err = tt; names = tt; later_kept = tt }) f stops.stopped.1

  module _ (copies : List (List ℕ)) (taken : AreTaken (map remaining old) copies) where
    read : AreWholeInputs (map remaining old) copies
    read = taken_whole (map remaining old) copies taken

    refused_bytes : (f : CliFault) → SpliceRefuses copies out out' output output' f → OfBytes (Err f)
    refused_bytes (faults.Splice path) ((index, other, is), kept) = record {
      ok = tt;
      err = (copies, read, (index, other, is));
      names = subst (IsSplicePath (length old)) (sym is)
          (let there : index < length copies = other.there in
          omega (arith, length-AreWholeInputs (map remaining old) copies read, length-map old remaining));
      later_kept = tt;
    }
    refused_bytes faults.Memory kept = record { ok = tt; err = tt; names = tt; later_kept = tt }
    refused_bytes (faults.Write named) (spliced, is, stops) =
        let text = splice_text spliced in
        record {
          ok = tt;
          err = (copies, spliced, read, is, both_stop_bytes spliced.payload text out out' output output' named stops);
          names = both_name spliced.payload text out out' output output' (IsSplicePath (length old)) tt tt named stops;
          later_kept = tt;
        }
    refused_bytes fault stops = absurd stops

  pub splice_of_bytes : (r : Result Bool CliFault) → ReportsSplice remaining r old new out out' output output' → OfBytes r
  splice_of_bytes (Ok returned) (copies, taken, wrote) = record {
    ok = record {
      copies = copies;
      spliced = wrote.spliced;
      read = taken_whole (map remaining old) copies taken;
      is_splice = wrote.is_splice;
      payload = wrote.payload.bytes';
      printed = wrote.printed.bytes';
      given_back = wrote.given_back;
    };
    err = tt;
    names = tt;
    later_kept = tt;
  }
  splice_of_bytes (Err f) (inl (stops, kept)) = copy_bytes f stops
  splice_of_bytes (Err f) (inr (copies, taken, refuses)) = refused_bytes copies taken f refuses
