-- What two files that are joined as streams say of the command that joins them.
use Rattle.std.proofs.Common.{◌≡◌, ℕ, ◌<◌, List, [], ◌∷◌, length, Option, Some, None, IfSome, Result, Ok, Err, OnOk, IfErr, refl, sym, subst, inl, inr, arith, length-append}
use Rattle.std.specs.Prelude.{◌≢◌}
use Rattle.std.specs.Io.KnownBytes.{Consumes}
use Rattle.std.proofs.KnownBytes.{Consumes-whole}
use Rattle.ffv1_bits.specs.Limits.{file_limit}
use Rattle.ffv1_holding.specs.Contents.{Contents}
use Rattle.ffv1_hold.specs.UnitedHoldings.{AreOfOneRecord, united}
use Rattle.ffv1_hold.specs.HoldingText.{head_text, begun_text, file_text, holding_text}
use Rattle.ffv1_hold.specs.declared.version.Version.TheVariants.{Second}
use Rattle.ffv1_hold.specs.FileFaults.{IsOutside, IsFaultOf}
use Rattle.ffv1_hold.specs.MergedStreams.{Inputs, InputRefuses, OneRefuses, MergeRefuses, LeftRefusesFirst, EntriesPass, UnionPasses, ReadsAll, ReadsSoFar, ReadsOtherHeads, WritesUnion, WritesNoEnd, WritesFrontSoFar, ReturnsUnion, ReturnsOther, StreamBegins, BeginsWithPart}
use Rattle.ffv1_hold.specs.MergeLogs.{Devices}
use Rattle.ffv1_hold.specs.declared.file_fault.HoldFileFault.{HoldFileFault}
use Rattle.ffv1_hold.specs.declared.file_fault.HoldFileFault.TheVariants as files
use Rattle.ffv1_hold.proofs.MergeSteps.{part_begins}
use Rattle.ffv1_hold.proofs.MergeStarts.{all_part}
use Rattle.ffv1_hold.proofs.UnionReels.{holding_both}
use Rattle.ffv1_holding.specs.declared.recordings.Recordings.{Recordings}
use Rattle.ffv1_hold.specs.FileFaults.{MayTake}
use Rattle.ffv1_hold.specs.JoinedStreams.{inputs_of}
use Rattle.ffv1_commands.specs.Fault.{NamesPath, of_merge}
use Rattle.ffv1_commands.specs.Paths.{IsMergePath}
use Rattle.ffv1_commands.specs.Holdings.{IsHoldingFile}
use Rattle.ffv1_commands.specs.MergeText.{MergesFiles, BeginsUnion, HeadsDiffer, IsFaultOfEither, IsLeftFaultFirst, IsMergeFault, LeavesEntries, MergeLeaves, ReturnsFiles, ReturnsOtherHeads, LeavesFront, ReportsMerge}
use Rattle.ffv1_commands.specs.declared.fault.CliFault.{CliFault}
use Rattle.ffv1_commands.specs.declared.fault.CliFault.TheVariants as faults

holding_file : (recordings : Recordings) (old new : Option (List ℕ)) (h : Contents) → MayTake recordings h.reel → ReadsAll old new h
    → IsHoldingFile recordings old h
holding_file recordings old new h taken a = record {
  version = a.file.version;
  text = Consumes-whole old new (file_text a.file.version h) (λ reported. reported ≡ file_text a.file.version h) a.file.taken a.at_end refl;
  well_formed = a.well_formed;
  taken = taken;
  fits = a.file.fits;
}

taken_begins : (old new : Option (List ℕ)) (bytes : List ℕ) → Consumes old new bytes → StreamBegins old bytes
taken_begins None new bytes t = tt
taken_begins (Some xs) None bytes t = absurd t
taken_begins (Some xs) (Some ys) bytes t = (ys, t)

module _ (i : Inputs) (w v : Option (List ℕ)) where
  -- ---- the file was made

  pub merges : WritesUnion i w v → MergesFiles i.recordings i.left_old i.right_old w v
  merges u = record {
    one = u.left;
    other = u.right;
    left_file = holding_file i.recordings _ _ u.left u.left_taken u.read.left_read;
    right_file = holding_file i.recordings _ _ u.right u.right_taken u.read.right_read;
    same = u.read.same;
    has_file = record {
      well_formed = holding_both u.left.reel u.right.reel (u.left.slices, u.left.origins) (u.right.slices, u.right.origins) u.read.same u.read.left_read.well_formed u.read.right_read.well_formed;
      fits = u.fits;
    };
    written = u.written;
  }

  -- ---- why it was not

  input_fault : (old new : Option (List ℕ)) (f : HoldFileFault) → (IsOutside f → ⊥) → InputRefuses i.recordings old new f
      → IfSome old (λ bytes. IsFaultOf i.recordings bytes f)
  input_fault None new f inside refused = tt
  input_fault (Some bytes) new f inside refused = (inside, (new, refused))

  either_fault : (f : HoldFileFault) → (IsOutside f → ⊥) → OneRefuses i f → IsFaultOfEither i.recordings i.left_old i.right_old f
  either_fault f inside (inl r) = inl (input_fault _ _ f inside r.0)
  either_fault f inside (inr r) = inr (input_fault _ _ f inside r.0)

  union_begins : (left right : Contents) → BeginsWithPart i.left_old left → BeginsWithPart i.right_old right → AreOfOneRecord left.reel right.reel
      → BeginsUnion i.left_old i.right_old (united left right)
  union_begins left right l r same = record { one = left; other = right; left_begins = l; right_begins = r; same = same; is = refl }

  so_far : (left right : Contents) → ReadsSoFar i left right → BeginsUnion i.left_old i.right_old (united left right)
  so_far left right r = union_begins left right (part_begins _ _ left r.left_read) (part_begins _ _ right r.right_read) r.same

  entries_pass : EntriesPass i → (union : Contents) × BeginsUnion i.left_old i.right_old union × (file_limit < length (holding_text union))
  entries_pass p = (
    united p.left p.right,
    so_far p.left p.right p.read,
    omega (arith, p.over, length-append (begun_text Second (united p.left p.right)) (0 ∷ [])),
  )

  union_passes : UnionPasses i → (union : Contents) × BeginsUnion i.left_old i.right_old union × (file_limit < length (holding_text union))
  union_passes u = (
    united u.left u.right,
    so_far u.left u.right
        (record { left_read = all_part _ _ u.left u.read.left_read; right_read = all_part _ _ u.right u.read.right_read; same = u.read.same }),
    u.over,
  )

  heads_differ : ReadsOtherHeads i → HeadsDiffer i.recordings i.left_old i.right_old
  heads_differ o = record {
    one = o.left;
    other = o.right;
    one_is = o.left_is;
    other_is = o.right_is;
    left_version = o.left_version;
    right_version = o.right_version;
    left_begins = taken_begins _ _ (head_text o.left_version o.left) o.left_taken;
    right_begins = taken_begins _ _ (head_text o.right_version o.right) o.right_taken;
    differ = o.other;
  }

  left_fault : (f : HoldFileFault) → (IsOutside f → ⊥) → LeftRefusesFirst i f → IsLeftFaultFirst i.recordings i.left_old f
  left_fault f inside (inl refused) = inl (input_fault _ _ f inside refused)
  left_fault f inside (inr begins) = inr begins

  pub merge_fault : (f : HoldFileFault) → MergeRefuses i f → LeftRefusesFirst i f → IsMergeFault i.recordings i.left_old i.right_old (of_merge f)
  merge_fault files.Read r first = refl
  merge_fault files.Write r first = refl
  merge_fault files.Memory r first = tt
  merge_fault files.OtherReel (inl (inl r)) first = absurd r.0
  merge_fault files.OtherReel (inl (inr r)) first = absurd r.0
  merge_fault files.OtherReel (inr heads) first = (inr (heads_differ heads), left_fault files.OtherReel (λ out. out) first)
  merge_fault files.TooLong (inr (inl b)) first = (inr (entries_pass b.0), left_fault files.TooLong (λ out. out) first)
  merge_fault files.TooLong (inr (inr u)) first = (inr (union_passes u), left_fault files.TooLong (λ out. out) first)
  merge_fault fault (inl r) first = (inl (either_fault fault (λ out. out) r), left_fault fault (λ out. out) first)
  merge_fault fault (inr b) first = absurd b

  -- ---- what it left

  entries_left : WritesNoEnd i w v → LeavesEntries i.left_old i.right_old w v
  entries_left (inl none) = inl none
  entries_left (inr e) = inr (
    united e.left e.right,
    union_begins e.left e.right e.left_begins e.right_begins e.same,
    e.written,
  )

-- ---- by the logs of the devices

-- what a fault left
pub leaves_front : (recordings : Recordings) (old new : Devices) (f : HoldFileFault) → (f ≢ files.Write → WritesNoEnd (inputs_of recordings old new) old.sink.contents new.sink.contents)
    → (f ≡ files.Write → WritesFrontSoFar (inputs_of recordings old new) old.sink.contents new.sink.contents) → LeavesFront recordings f old new
leaves_front recordings old new files.Write none front = front refl
leaves_front recordings old new fault none front = none (λ is. absurd (cc))

-- no other fault is reported as that of heads of two reels
pub other_heads : (f : HoldFileFault) → of_merge f ≡ faults.HoldFile files.OtherReel → f ≡ files.OtherReel
other_heads files.Read is = absurd (cc)
other_heads files.Write is = absurd (cc)
other_heads files.Memory is = absurd (cc)
other_heads fault is = cc

merge_names : (f : HoldFileFault) → NamesPath IsMergePath (of_merge f)
merge_names files.Read = tt
merge_names fault = tt

-- the same of bytes
pub record MergeOfBytes {T : Type 0} (recordings : Recordings) (r : Result T CliFault) (left right before after : Option (List ℕ)) : Type 0 where
  pub ok : OnOk r (MergesFiles recordings left right before after)
  pub err : IfErr r (IsMergeFault recordings left right)
  pub leaves : IfErr r (MergeLeaves left right before after)
  pub names : IfErr r (NamesPath IsMergePath)

merge_leaves : (recordings : Recordings) (old new : Devices) (f : HoldFileFault) → LeavesFront recordings f old new
    → MergeLeaves old.left.remaining old.right.remaining old.sink.contents new.sink.contents (of_merge f)
merge_leaves recordings old new files.Write left = (united left.left left.right, so_far (inputs_of recordings old new) old.sink.contents new.sink.contents left.left left.right left.read, left.front)
merge_leaves recordings old new fault left = entries_left (inputs_of recordings old new) old.sink.contents new.sink.contents left

module _ {T : Type 0} (recordings : Recordings) (old new : Devices) where
  abbrev OfBytes : Result T CliFault → Type 0
  OfBytes r = MergeOfBytes recordings r old.left.remaining old.right.remaining old.sink.contents new.sink.contents

  pub merge_of_bytes : (r : Result T CliFault) → ReportsMerge recordings r old new → OfBytes r
  merge_of_bytes (Ok x) (union, went) = record { ok = merges (inputs_of recordings old new) old.sink.contents new.sink.contents union; err = tt; leaves = tt; names = tt }
  merge_of_bytes (Err fault) (f, is, stops) = subst (λ (g : CliFault). OfBytes (Err g)) (sym is) (record {
    ok = tt;
    err = merge_fault (inputs_of recordings old new) old.sink.contents new.sink.contents f stops.shown stops.first;
    leaves = merge_leaves recordings old new f stops.leaves;
    names = merge_names f;
  })

-- ---- what the command returns

outside_other : (f : HoldFileFault) → IsOutside f → ReturnsOtherHeads (Err (of_merge f))
outside_other files.Read out = tt
outside_other files.Memory out = tt
outside_other fault out = absurd out

pub returns_other_heads : (f : HoldFileFault) → ReturnsOther (Err f) → ReturnsOtherHeads (Err (of_merge f))
returns_other_heads f (inl out) = outside_other f out
returns_other_heads f (inr is) = subst (λ (g : HoldFileFault). ReturnsOtherHeads (Err (of_merge g))) (sym is) refl

outside_union : (union : Contents) (f : HoldFileFault) → IsOutside f → ReturnsFiles union (Err (of_merge f))
outside_union union files.Read out = tt
outside_union union files.Memory out = tt
outside_union union fault out = absurd out

pub returns_files : (union : Contents) (f : HoldFileFault) → ReturnsUnion union (Err f) → ReturnsFiles union (Err (of_merge f))
returns_files union f (inl out) = outside_union union f out
returns_files union f (inr (inl is)) = subst (λ (g : HoldFileFault). ReturnsFiles union (Err (of_merge g))) (sym is) tt
returns_files union f (inr (inr (is, long))) = subst (λ (g : HoldFileFault). ReturnsFiles union (Err (of_merge g))) (sym is) (refl, long)
