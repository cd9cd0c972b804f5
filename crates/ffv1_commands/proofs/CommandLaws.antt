-- What commands make of copies is the file of their holding, whatever tree of commands leads there.
use Rattle.std.proofs.Common.{◌≡◌, ℕ, suc, ◌<◌, ◌≤◌, Bool, List, [], ◌∷◌, ◌++◌, length, map, get_or, Option, Some, None, refl, sym, ap, ◌∙◌, subst, arith, inl, inr, append_assoc, append-nil}
use Rattle.std.specs.Prelude.{Contains}
use Rattle.std.specs.List.{flat_map}
use Rattle.std.specs.Io.KnownBytes.{Appends}
use Rattle.ffv1_bits.specs.Limits.{payload_limit}
use Rattle.ffv1_range.specs.Setup.{SetupValue, IsSetupOf}
use Rattle.ffv1_range.specs.TileHeaders.{TileRules, profile_rules}
use Rattle.ffv1_range.proofs.SetupFacts.{one_setup}
use Rattle.ffv1_range.proofs.ProfileLaws.{rules_of_profile, record_of_profile}
use Rattle.sha2.specs.Sha256.{sha256}
use Rattle.ffv1_slice.specs.Slices.{IsOriginal, found_slices}
use Rattle.ffv1_slice.proofs.Links.{Contains-head, Contains-cons}
use Rattle.ffv1_range.specs.declared.scope.Scope.TheVariants.{Parities}
use Rattle.ffv1_range.proofs.SetupLaws.{record_is_one}
use Rattle.ffv1_holding.specs.Sets as set
use Rattle.ffv1_holding.specs.Reels.{Reel, IsReel, IsRecordReel, reel_of}
use Rattle.ffv1_holding.specs.declared.recordings.Recordings.{Recordings}
use Rattle.ffv1_holding.specs.declared.recordings.Recordings.TheVariants.{Profile, Any}
use Rattle.ffv1_holding.proofs.Reels.{has_parities}
use Rattle.ffv1_holding.specs.Contents.{Contents, IsHolding, AreOwnEntries, holding_of, joined, origins_of_copy, HasSameCopies}
use Rattle.ffv1_holding.proofs.ContentsLaws.{joined-holding_of, holding_of-same}
use Rattle.ffv1_hold.specs.FileFaults.{MayTake, IsFaultOf}
use Rattle.ffv1_hold.specs.Headline.{IsReelOf}
use Rattle.ffv1_hold.specs.HoldingText.{holding_text}
use Rattle.ffv1_hold.specs.UnitedHoldings.{united}
use Rattle.ffv1_hold.specs.declared.version.Version.TheVariants.{Second}
use Rattle.ffv1_holding.specs.Joins.{joined_all}
use Rattle.ffv1_holding.specs.Originals.{AreCopiesOfSlices, HoldsExactly}
use Rattle.ffv1_holding.specs.TileState.{restored_payload, IsLeastUnsettled}
use Rattle.ffv1_hold.proofs.Returned.{refused_outside}
use Rattle.ffv1_holding.proofs.ExactlyHeld.{exactly_held, near_are_copies}
use Rattle.ffv1_hold.proofs.PlanSteps.{reel_of_record}
use Rattle.ffv1_holding.proofs.Restored.{restored_original}
use Rattle.ffv1_hold.proofs.TextLaws.{one_text}
use Rattle.ffv1_hold.specs.Restorations.{AreEqualInAll, ShowsSlices}
use Rattle.ffv1_picture.specs.PartialPictures.{IsPartialPicture}
use Rattle.ffv1_holding.specs.ReportText.{report_text}
use Rattle.ffv1_hold.proofs.Restorations.{same_in_all, exact_settles, exact_shows}
use Rattle.ffv1_commands.specs.Devices.{AreWholeInputs}
use Rattle.ffv1_commands.specs.TakenFrames.{frames_of, in_taken_frames, as_taken, IsTakenReel, IsFiled}
use Rattle.ffv1_commands.specs.Holdings.{IsHoldingFile, IsSavedFile, HasFile, IsHoldingFault}
use Rattle.ffv1_commands.specs.TakeText.{TakesCopies}
use Rattle.ffv1_commands.specs.JoinText.{AreTakenFiles, JoinsFiles}
use Rattle.ffv1_commands.specs.MergeText.{MergesFiles}
use Rattle.ffv1_commands.specs.RestoreText.{RestoreStops}
use Rattle.ffv1_commands.specs.PictureText.{PictureStops}
use Rattle.ffv1_commands.specs.ReportedText.{ReportsFile}
use Rattle.ffv1_commands.specs.Commands.{IsMadeOf, IsNoFaultOfBytes, RestoresOnly, ShowsOnly, FindTheSame, MadeOfCopies, SameCopiesMakeOneHolding, SameCopiesMakeOneFile, SameCopiesMakeOneReport, CommandsRestoreTheOriginal, CommandsRestoreNearCopies, CommandsShowTheOriginal, CommandsShowNearCopies}
use Rattle.ffv1_commands.specs.Commands.IsMadeOf.{by_take, by_join, by_merge}
use Rattle.ffv1_hold.specs.declared.file_fault.HoldFileFault.{HoldFileFault}
use Rattle.ffv1_commands.proofs.FiledHoldings.{taken_is_reel, one_taken, taken_back, profile_filed, profile_entries, filed_alike, united_filed}
use Rattle.ffv1_commands.specs.declared.fault.CliFault.{CliFault}
use Rattle.ffv1_commands.specs.declared.fault.CliFault.TheVariants as faults
use Rattle.ffv1_commands.specs.declared.path.CommandPath.TheVariants as paths

-- The file is that of the holding of the copies, under the reel of the record and the size.
pub record IsFileOfCopies (recordings : Recordings) (config : List ℕ) (width height : ℕ) (copies : List (List ℕ)) (file : List ℕ) : Type 0 where
  pub reel : Reel
  pub of_record : IsTakenReel recordings config width height reel
  pub saved : IsSavedFile (holding_of reel copies) file

-- ---- what is read

pub whole_inputs : (copies all : List (List ℕ)) → AreWholeInputs (map Some copies) all → copies ≡ all
whole_inputs [] [] each = refl
whole_inputs [] (b ∷ bs) each = absurd each
whole_inputs (c ∷ cs) [] each = absurd each
whole_inputs (c ∷ cs) (b ∷ bs) each =
    let first : c ≡ b = each.0.reported in
    let rest : cs ≡ bs = whole_inputs cs bs each.1 in
    cc

-- a file is that of one holding
pub one_holding : (recordings : Recordings) (g h : Contents) (file : List ℕ) → IsHoldingFile recordings (Some file) g → file ≡ holding_text h → HasFile h → g ≡ h
one_holding recordings g h file is text has = one_text g h file is.well_formed has.well_formed is.fits.record' has.fits.record'
    (is.version, is.fits.stated, is.fits.tells, is.text) (Second, has.fits.stated, has.fits.tells, text)

-- what is read of it is the holding as it is filed
module _ (recordings : Recordings) (config : List ℕ) (width height : ℕ) (copies : List (List ℕ)) (file : List ℕ)
    (is : IsFileOfCopies recordings config width height copies file) where
  pub read_filed : (h : Contents) → IsHoldingFile recordings (Some file) h → h ≡ is.saved.filed
  read_filed h file_is = one_holding recordings h is.saved.filed file file_is is.saved.text is.saved.has_file

  -- and, as it is taken, the holding itself
  pub read_taken : (h : Contents) → IsHoldingFile recordings (Some file) h → as_taken recordings h ≡ holding_of is.reel copies
  read_taken h file_is =
      ap (as_taken recordings) (read_filed h file_is)
      ∙ taken_back recordings (holding_of is.reel copies) is.of_record.0
      (reel_of_record recordings config width height is.of_record.0 is.of_record.1) is.of_record.2 is.saved.filed is.saved.is_filed

  -- it is one of a file that is read
  pub filed_taken : MayTake recordings is.saved.filed.reel
  filed_taken = may_take recordings (holding_of is.reel copies) is.saved.filed is.of_record is.saved.is_filed
    where
      may_take : (recordings : Recordings) (h filed : Contents) → IsTakenReel recordings config width height h.reel → IsFiled h filed
          → MayTake recordings filed.reel
      may_take Profile h filed of filed_is =
          let own = profile_filed h filed of.0 (reel_of_record Profile config width height of.0 of.1) of.2 filed_is in
          ap (λ (k : Contents). k.reel.rules.is_profile) own ∙ ap (λ (r : Reel). r.rules.is_profile) (of.2 ∙ of.1.2)
          ∙ record_of_profile config width height of.1.0 of.1.1
      may_take Any h filed of filed_is = tt

-- the same file of the same holding
saved_as : (h g : Contents) (file text : List ℕ) → h ≡ g → file ≡ text → IsSavedFile h text → IsSavedFile g file
saved_as h g file text same is saved = subst (λ k. IsSavedFile k file) same (subst (IsSavedFile h) (sym is) saved)

-- ---- a tree of commands

module _ (recordings : Recordings) (config : List ℕ) (width height : ℕ) where
  of_take : (copies : List (List ℕ)) (file : List ℕ) (before after : Option (List ℕ)) (in_order : Bool)
      → TakesCopies recordings (Some config) width height (map Some copies) (Some []) (Some file) before after in_order
      → IsFileOfCopies recordings config width height copies file
  of_take copies file before after in_order takes =
      let same : copies ≡ takes.copies = whole_inputs copies takes.copies takes.read in
      let reported : config ≡ takes.reel.config = takes.of_record.read.reported in
      record {
        reel = takes.reel;
        of_record = subst (λ (c : List ℕ). IsTakenReel recordings c width height takes.reel) (sym reported) takes.of_record.of_record;
        saved = saved_as (holding_of takes.reel takes.copies) (holding_of takes.reel copies) file takes.file (ap (holding_of takes.reel) (sym same))
            takes.written takes.saved;
      }

  -- the files of parts, as they are taken, are those of the parts' holdings
  held_of_parts : (reel : Reel) → IsTakenReel recordings config width height reel → (parts : List (List (List ℕ))) (files : List (List ℕ)) (hs : List Contents)
      → length parts ≡ length files
      → ((i : ℕ) → i < length files → IsFileOfCopies recordings config width height (get_or parts i []) (get_or files i [])) → AreTakenFiles recordings (map Some files) hs
      → hs ≡ map (holding_of reel) parts
  held_of_parts reel is [] [] [] l each are = refl
  held_of_parts reel is [] [] (h ∷ hs) l each are = absurd are
  held_of_parts reel is [] (f ∷ fs) hs l each are = absurd (omega arith)
  held_of_parts reel is (p ∷ ps) [] hs l each are = absurd (omega arith)
  held_of_parts reel is (p ∷ ps) (f ∷ fs) [] l each are = absurd are
  held_of_parts reel is (p ∷ ps) (f ∷ fs) (h ∷ hs) l each are =
      let own : IsFileOfCopies recordings config width height p f = each 0 (omega arith) in
      let same : own.reel ≡ reel = one_taken recordings config width height own.reel reel own.of_record is in
      let first : h ≡ holding_of reel p =
      are.0.2 ∙ read_taken recordings config width height p f own are.0.0 are.0.1 ∙ ap (λ r. holding_of r p) same in
      let rest : hs ≡ map (holding_of reel) ps = held_of_parts reel is ps fs hs (omega arith) (λ i lt. each (suc i) (omega arith)) are.1 in
      λ i. first i ∷ rest i

  -- their union is the holding of all of them
  joined_parts : (reel : Reel) (before : List (List ℕ)) (parts : List (List (List ℕ)))
      → joined_all joined (holding_of reel before) (map (holding_of reel) parts) ≡ holding_of reel (before ++ flat_map (λ part. part) parts)
  joined_parts reel before [] = ap (holding_of reel) (sym (append-nil before))
  joined_parts reel before (p ∷ ps) =
      ap (λ h. joined_all joined h (map (holding_of reel) ps)) (joined-holding_of reel before p)
      ∙ joined_parts reel (before ++ p) ps ∙ ap (holding_of reel) (append_assoc before p (flat_map (λ part. part) ps))

  of_join : (parts : List (List (List ℕ))) (files : List (List ℕ)) (file : List ℕ) (before after : Option (List ℕ)) → length parts ≡ length files
      → ((i : ℕ) → i < length files → IsFileOfCopies recordings config width height (get_or parts i []) (get_or files i []))
      → JoinsFiles recordings (map Some files) (Some []) (Some file) before after
      → IsFileOfCopies recordings config width height (flat_map (λ part. part) parts) file
  of_join [] [] file before after l each joins = absurd joins.each.files
  of_join [] (f ∷ fs) file before after l each joins = absurd (omega arith)
  of_join (p ∷ ps) [] file before after l each joins = absurd (omega arith)
  of_join (p ∷ ps) (f ∷ fs) file before after l each joins =
      let own : IsFileOfCopies recordings config width height p f = each 0 (omega arith) in
      let reel : Reel = own.reel in
      let held : joins.each.first ∷ joins.each.others ≡ map (holding_of own.reel) (p ∷ ps) = held_of_parts own.reel own.of_record (p ∷ ps) (f ∷ fs)
      (joins.each.first ∷ joins.each.others) l each joins.each.files in
      let first : joins.each.first ≡ holding_of own.reel p = cc in
      let others : joins.each.others ≡ map (holding_of own.reel) ps = cc in
      let whole : joins.whole ≡ holding_of own.reel (p ++ flat_map (λ part. part) ps) =
      joins.each.held ∙ (λ i. joined_all joined (first i) (others i)) ∙ joined_parts own.reel p ps in
      record {
        reel = own.reel;
        of_record = own.of_record;
        saved = saved_as joins.whole (holding_of own.reel (p ++ flat_map (λ part. part) ps)) file joins.file whole joins.written joins.saved;
      }

  of_merge : (lefts rights : List (List ℕ)) (left right file : List ℕ) → IsFileOfCopies recordings config width height lefts left → IsFileOfCopies recordings config width height rights right
      → MergesFiles recordings (Some left) (Some right) (Some []) (Some file) → IsFileOfCopies recordings config width height (lefts ++ rights) file
  of_merge lefts rights left right file own also merges =
      let reel : Reel = own.reel in
      let record_is = reel_of_record recordings config width height own.of_record.0 own.of_record.1 in
      let same : also.reel ≡ reel = one_taken recordings config width height also.reel reel also.of_record own.of_record in
      let one : merges.one ≡ own.saved.filed = read_filed recordings config width height lefts left own merges.one merges.left_file in
      let other : merges.other ≡ also.saved.filed = read_filed recordings config width height rights right also merges.other merges.right_file in
      let filed_other : IsFiled (holding_of reel rights) also.saved.filed =
      subst (λ (r : Reel). IsFiled (holding_of r rights) also.saved.filed) same also.saved.is_filed in
      let filed : IsFiled (holding_of reel (lefts ++ rights)) (united own.saved.filed also.saved.filed) =
      subst (λ (h : Contents). IsFiled h (united own.saved.filed also.saved.filed)) (joined-holding_of reel lefts rights)
      (united_filed recordings (holding_of reel lefts) (holding_of reel rights) own.of_record.0 record_is own.of_record.2 own.of_record.2
      own.saved.filed also.saved.filed own.saved.is_filed filed_other) in
      let whole : united merges.one merges.other ≡ united own.saved.filed also.saved.filed = (λ i. united (one i) (other i)) in
      record {
        reel = reel;
        of_record = own.of_record;
        saved = record {
          filed = united own.saved.filed also.saved.filed;
          is_filed = filed;
          has_file = subst HasFile whole merges.has_file;
          text = merges.written ∙ ap holding_text whole;
        };
      }

  pub made : (copies : List (List ℕ)) (file : List ℕ) → IsMadeOf recordings config width height copies file → IsFileOfCopies recordings config width height copies file
  made _ _ (by_take copies file before after in_order takes) = of_take copies file before after in_order takes
  made _ _ (by_join parts files file before after l each joins) =
      of_join parts files file before after l (λ i lt. made (get_or parts i []) (get_or files i []) (each i lt)) joins
  made _ _ (by_merge lefts rights left right file one other merges) =
      of_merge lefts rights left right file (made lefts left one) (made rights right other) merges

-- ---- the same copies

-- a record and a size are those of one reel by its record's own rules, as whichever recordings it is read
reel_of_either : (recordings also : Recordings) (config : List ℕ) (width height : ℕ) (r s : Reel) → IsReelOf recordings config width height r
    → IsReelOf also config width height s → r ≡ s
reel_of_either recordings also config width height r s is of =
    let same = record_is_one config Parities width height is.0 of.0 (has_parities recordings config width height is.0 is.1)
    (has_parities also config width height of.0 of.1) in
    is.2 ∙ ap (reel_of config) same ∙ sym of.2

-- copies of which each gives the same give the same together
same_found : {K : Type 0} (gives also : List ℕ → List K) (copies : List (List ℕ)) → ((copy : List ℕ) → Contains copies copy → gives copy ≡ also copy)
    → flat_map gives copies ≡ flat_map also copies
same_found gives also [] each = refl
same_found gives also (c ∷ cs) each = (λ i. each c (Contains-head c cs) i ++ same_found gives also cs (λ copy there. each copy (Contains-cons c copy cs there)) i)

module _ (recordings others_recordings : Recordings) (config : List ℕ) (width height : ℕ) (copies others : List (List ℕ)) (file other : List ℕ)
    (is : IsFileOfCopies recordings config width height copies file) (also : IsFileOfCopies others_recordings config width height others other)
    (same : HasSameCopies copies others) (alike : FindTheSame recordings others_recordings config width height copies) where
  abbrev held : Contents
  held = holding_of is.reel copies

  abbrev also_held : Contents
  also_held = holding_of also.reel copies

  abbrev base : Reel
  base = is.of_record.0

  own_same : also.of_record.0 ≡ base
  own_same = sym (reel_of_either recordings others_recordings config width height base also.of_record.0 is.of_record.1 also.of_record.1)

  also_reel : also.reel ≡ in_taken_frames others_recordings base
  also_reel = also.of_record.2 ∙ ap (in_taken_frames others_recordings) own_same

  own_is : IsRecordReel base
  own_is = reel_of_record recordings config width height base is.of_record.1

  filed_of_same : IsFiled also_held also.saved.filed
  filed_of_same = subst (λ (h : Contents). IsFiled h also.saved.filed) (sym (holding_of-same also.reel copies others same)) also.saved.is_filed

  -- the same is found in each copy
  found : (copy : List ℕ) → Contains copies copy → found_slices is.reel.rules copy ≡ found_slices also.reel.rules copy
  found copy there = by alike
    where
      by : FindTheSame recordings others_recordings config width height copies → found_slices is.reel.rules copy ≡ found_slices also.reel.rules copy
      by (inl e) = ap (λ (r : Reel). found_slices r.rules copy) (is.of_record.2 ∙ ap (λ r. in_taken_frames r base) e ∙ sym also_reel)
      by (inr each) = each is.reel also.reel is.of_record also.of_record copy there

  same_slices : held.slices ≡ also_held.slices
  same_slices = ap set.from_list (same_found (found_slices is.reel.rules) (found_slices also.reel.rules) copies found)

  same_origins : held.origins ≡ also_held.origins
  same_origins = ap set.from_list (same_found (origins_of_copy is.reel.rules) (origins_of_copy also.reel.rules) copies
      (λ copy there. ap (map (λ e. (e, sha256 copy))) (found copy there)))

  -- what is filed as it is has one reel
  unfiled : ¬ AreOwnEntries held → ¬ AreOwnEntries also_held → held.reel ≡ also_held.reel
  unfiled none nor = by recordings others_recordings is.of_record.2 also_reel (λ e. is_own e) (λ e. also_own e)
    where
      is_own : recordings ≡ Profile → ⊥
      is_own e =
          let reel = is.of_record.2 ∙ ap (λ r. in_taken_frames r base) e in
          let filed = profile_filed held is.saved.filed base own_is reel is.saved.is_filed in
          none (profile_entries held base own_is reel (subst IsHolding filed is.saved.has_file.well_formed))

      also_own : others_recordings ≡ Profile → ⊥
      also_own e =
          let reel = also_reel ∙ ap (λ r. in_taken_frames r base) e in
          let filed = profile_filed also_held also.saved.filed base own_is reel filed_of_same in
          nor (profile_entries also_held base own_is reel (subst IsHolding filed also.saved.has_file.well_formed))

      by : (r s : Recordings) → is.reel ≡ in_taken_frames r base → also.reel ≡ in_taken_frames s base → (r ≡ Profile → ⊥) → (s ≡ Profile → ⊥)
          → is.reel ≡ also.reel
      by Profile s e f not_r not_s = absurd (not_r refl)
      by Any Profile e f not_r not_s = absurd (not_s refl)
      by Any Any e f not_r not_s = e ∙ sym f

  one_filed : is.saved.filed ≡ also.saved.filed
  one_filed = filed_alike held also_held base (own_is, (frames_of recordings, is.of_record.2)) (own_is, (frames_of others_recordings, also_reel))
      same_slices same_origins is.saved.filed also.saved.filed is.saved.is_filed filed_of_same unfiled

  one_file : file ≡ other
  one_file = is.saved.text ∙ ap holding_text one_filed ∙ sym also.saved.text

  same_read : (h g : Contents) → IsHoldingFile recordings (Some file) h → IsHoldingFile others_recordings (Some other) g → h ≡ g
  same_read h g h_is g_is =
      read_filed recordings config width height copies file is h h_is ∙ one_filed
      ∙ sym (read_filed others_recordings config width height others other also g g_is)

  one_report : (report other_report : List ℕ) → ReportsFile recordings (Some file) (Some []) (Some report)
      → ReportsFile others_recordings (Some other) (Some []) (Some other_report) → report ≡ other_report
  one_report report other_report reported other_reported =
      reported.printed ∙ ap report_text (same_read reported.held other_reported.held reported.file other_reported.file) ∙ sym other_reported.printed

  one_holding_read : (h g : Contents) → IsHoldingFile recordings (Some file) h → IsHoldingFile others_recordings (Some other) g → AreEqualInAll h g
  one_holding_read h g h_is g_is =
      let P : Contents → Type 0 = λ x. AreEqualInAll h x in
      subst P (same_read h g h_is g_is) (same_in_all h)

pub made_of_copies : MadeOfCopies
made_of_copies recordings config width height copies file is =
    let of : IsFileOfCopies recordings config width height copies file = made recordings config width height copies file is in (
      of.reel,
      of.of_record,
      (
        of.saved.filed,
        of.saved.is_filed,
        record {
          version = Second;
          text = of.saved.text;
          well_formed = of.saved.has_file.well_formed;
          taken = filed_taken recordings config width height copies file of;
          fits = of.saved.has_file.fits;
        },
      ),
    )

pub same_copies_make_one_holding : SameCopiesMakeOneHolding
same_copies_make_one_holding recordings also config width height copies others file other h g is made_also same alike h_is g_is =
    one_holding_read recordings also config width height copies others file other (made recordings config width height copies file is)
    (made also config width height others other made_also) same alike h g h_is g_is

pub same_copies_make_one_file : SameCopiesMakeOneFile
same_copies_make_one_file recordings also config width height copies others file other is made_also same alike =
    one_file recordings also config width height copies others file other (made recordings config width height copies file is)
    (made also config width height others other made_also) same alike

pub same_copies_make_one_report : SameCopiesMakeOneReport
same_copies_make_one_report recordings also config width height copies others file other report other_report is made_also same alike reported other_reported =
    one_report recordings also config width height copies others file other (made recordings config width height copies file is)
    (made also config width height others other made_also) same alike report other_report reported other_reported

-- ---- copies of an original

-- a holding's own file shows no fault
pub no_fault : (recordings : Recordings) (h : Contents) (file : List ℕ) → MayTake recordings h.reel → file ≡ holding_text h → HasFile h
    → (fault : HoldFileFault) → IsHoldingFault recordings (paths.Hold 0) (Some file) (faults.HoldFile fault) → ⊥
no_fault recordings h file of text has fault stops =
    let own : IsFaultOf recordings (holding_text h) fault = subst (λ (t : List ℕ). IsFaultOf recordings t fault) text stops in
    own.0 (refused_outside recordings Second h has.well_formed of has.fits fault own.1.0 own.1.1)

-- nor does a file that is made of copies
pub made_no_fault : (recordings : Recordings) (config : List ℕ) (width height : ℕ) (copies : List (List ℕ)) (file : List ℕ)
    (is : IsFileOfCopies recordings config width height copies file) (fault : HoldFileFault)
    → IsHoldingFault recordings (paths.Hold 0) (Some file) (faults.HoldFile fault) → ⊥
made_no_fault recordings config width height copies file is fault stops =
    no_fault recordings is.saved.filed file (filed_taken recordings config width height copies file is) is.saved.text is.saved.has_file fault stops

-- the tile that is not settled first is so as it is taken
pub unsettled_taken : (recordings : Recordings) (h : Contents) (tile : ℕ) → IsLeastUnsettled h tile → IsLeastUnsettled (as_taken recordings h) tile
unsettled_taken recordings h tile least = record { in_grid = least.in_grid; unsettled = least.unsettled; before = least.before }

module _ (recordings : Recordings) (config : List ℕ) (width height : ℕ) (reel : Reel) (copies : List (List ℕ)) (file original : List ℕ) (slices : List (List ℕ))
    (of_record : IsTakenReel recordings config width height reel) (is : IsFileOfCopies recordings config width height copies file)
    (is_original : IsOriginal reel.rules original slices) (are : AreCopiesOfSlices reel.rules slices copies) where
  pub same_reel : reel ≡ is.reel
  same_reel = one_taken recordings config width height reel is.reel of_record is.of_record

  pub is_reel : IsReel is.reel
  is_reel = taken_is_reel recordings config width height is.reel is.of_record

  pub exact : HoldsExactly (holding_of is.reel copies) slices
  exact = exactly_held is.reel slices copies (subst (λ (r : Reel). AreCopiesOfSlices r.rules slices copies) same_reel are)

  pub own : IsOriginal is.reel.rules original slices
  own = subst (λ (r : Reel). IsOriginal r.rules original slices) same_reel is_original

  read : (h : Contents) → IsHoldingFile recordings (Some file) h → as_taken recordings h ≡ holding_of is.reel copies
  read h file_is = read_taken recordings config width height copies file is h file_is

  settled : (h : Contents) → IsHoldingFile recordings (Some file) h → (tile : ℕ) → IsLeastUnsettled h tile → ⊥
  settled h file_is tile least =
      exact_settles (holding_of is.reel copies) original slices is_reel own exact tile
      (subst (λ (g : Contents). IsLeastUnsettled g tile) (read h file_is) (unsettled_taken recordings h tile least))

  refused : (ob oa pb pa : Option (List ℕ)) (fault : CliFault) → RestoreStops recordings (Some file) ob oa pb pa fault → IsNoFaultOfBytes fault
  refused ob oa pb pa (faults.Read path) stops = tt
  refused ob oa pb pa (faults.Write path) stops = tt
  refused ob oa pb pa (faults.HoldFile fault) stops = made_no_fault recordings config width height copies file is fault stops
  refused ob oa pb pa (faults.Missing tile) (h, file_is, refusal) = settled h file_is tile refusal.0
  refused ob oa pb pa (faults.Disputed tile) (h, file_is, refusal) = settled h file_is tile refusal.0
  refused ob oa pb pa faults.Memory stops = tt
  refused ob oa pb pa fault stops = stops

  restores : RestoresOnly recordings file original
  restores = record {
    written = λ ob oa pb pa does.
        let payload : restored_payload does.held ≡ original = ap restored_payload (read does.held does.file)
        ∙ restored_original (holding_of is.reel copies) slices exact original is_reel own in
        subst (Appends ob oa) payload does.payload;
    refused = refused;
  }

pub commands_restore_the_original : CommandsRestoreTheOriginal
commands_restore_the_original recordings config width height reel copies file original slices of_record is is_original are =
    restores recordings config width height reel copies file original slices of_record (made recordings config width height copies file is) is_original are

pub commands_restore_near_copies : CommandsRestoreNearCopies
commands_restore_near_copies recordings config width height reel copies file original slices of_record is near =
    commands_restore_the_original recordings config width height reel copies file original slices of_record is near.is_original
    (near_are_copies reel.rules original slices copies near)

-- ---- what is shown of an original of the profile

module _ (config : List ℕ) (width height : ℕ) (setup : SetupValue) (copies : List (List ℕ)) (file original : List ℕ) (slices : List (List ℕ))
    (is_setup : IsSetupOf config width height setup) (is : IsFileOfCopies Profile config width height copies file)
    (is_original : IsOriginal (profile_rules setup) original slices) (are : AreCopiesOfSlices (profile_rules setup) slices copies) where
  reel_is : is.reel ≡ reel_of config is.of_record.1.0
  reel_is = is.of_record.2 ∙ is.of_record.1.2

  same_setup : setup ≡ is.reel.setup
  same_setup = one_setup config width height setup is.reel.setup is_setup
      (record { recording = is.of_record.1.0; record_of = is.of_record.1.1; is = ap (λ (r : Reel). r.setup) reel_is })

  same_rules : profile_rules setup ≡ is.reel.rules
  same_rules = ap profile_rules (same_setup ∙ ap (λ (r : Reel). r.setup) reel_is)
      ∙ sym (ap (λ (r : Reel). r.rules) reel_is ∙ rules_of_profile is.of_record.1.0 (record_of_profile config width height is.of_record.1.0 is.of_record.1.1))

  own_original : IsOriginal is.reel.rules original slices
  own_original = subst (λ (rules : TileRules). IsOriginal rules original slices) same_rules is_original

  own_copies : AreCopiesOfSlices is.reel.rules slices copies
  own_copies = subst (λ (rules : TileRules). AreCopiesOfSlices rules slices copies) same_rules are

  not_shown : (ob oa pb pa : Option (List ℕ)) (fault : CliFault) → PictureStops (Some file) ob oa pb pa fault → IsNoFaultOfBytes fault
  not_shown ob oa pb pa (faults.Read path) stops = tt
  not_shown ob oa pb pa (faults.Write path) stops = tt
  not_shown ob oa pb pa (faults.HoldFile fault) stops = made_no_fault Profile config width height copies file is fault stops
  not_shown ob oa pb pa faults.Memory stops = tt
  not_shown ob oa pb pa fault stops = stops

  shows : ShowsOnly setup file slices
  shows =
      let reel = is_reel Profile config width height is.reel copies file original slices is.of_record is own_original own_copies in
      let all = exact Profile config width height is.reel copies file original slices is.of_record is own_original own_copies in
      record {
        written = λ ob oa pb pa whole does.
            let same : does.held ≡ holding_of is.reel copies = read_taken Profile config width height copies file is does.held does.file in
            let picture = subst (λ (h : Contents). IsPartialPicture h does.shown) same does.picture in (
              does.shown.frame,
              subst (λ (s : SetupValue). ShowsSlices s slices does.shown.frame) (sym same_setup)
                  (exact_shows (holding_of is.reel copies) original slices reel own_original all does.shown picture),
              does.samples,
            );
        refused = not_shown;
      }

pub commands_show_the_original : CommandsShowTheOriginal
commands_show_the_original config width height setup copies file original slices is_setup is is_original are =
    shows config width height setup copies file original slices is_setup (made Profile config width height copies file is) is_original are

pub commands_show_near_copies : CommandsShowNearCopies
commands_show_near_copies config width height setup copies file original slices is_setup is near =
    commands_show_the_original config width height setup copies file original slices is_setup is near.is_original
    (near_are_copies (profile_rules setup) original slices copies near)

-- ---- the family has members

whole_inputs-all : (copies : List (List ℕ)) → ((i : ℕ) → i < length copies → length (get_or copies i []) ≤ payload_limit)
    → AreWholeInputs (map Some copies) copies
whole_inputs-all [] few = tt
whole_inputs-all (c ∷ cs) few = (record { reported = refl; few = few 0 (omega arith) }, whole_inputs-all cs (λ i lt. few (suc i) (omega arith)))

-- where a record has a setup, copies and record are short enough, and their holding has a file, that file is made of them
taken : (recordings : Recordings) (config : List ℕ) (width height : ℕ) (reel : Reel) (copies : List (List ℕ)) (file : List ℕ)
    → IsTakenReel recordings config width height reel → length config ≤ payload_limit
    → ((i : ℕ) → i < length copies → length (get_or copies i []) ≤ payload_limit) → IsSavedFile (holding_of reel copies) file
    → IsMadeOf recordings config width height copies file
taken recordings config width height reel copies file is short few saved =
    let same : config ≡ reel.config = sym (ap (λ (r : Reel). r.config) is.2 ∙ ap (λ (r : Reel). r.config) is.1.2) in
    by_take copies file None None _ (record {
      reel = reel;
      of_record = record {
        read = record { reported = same; few = omega (arith, ap length same) };
        of_record = subst (λ (c : List ℕ). IsTakenReel recordings c width height reel) same is;
      };
      copies = copies;
      read = whole_inputs-all copies few;
      file = file;
      saved = saved;
      written = refl;
      printed = tt;
      order = refl;
    })
