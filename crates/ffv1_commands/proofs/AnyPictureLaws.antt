-- `picture --any` shows just the original's slices.
use Rattle.std.proofs.Common.{◌≡◌, ℕ, suc, ◌++◌, true, List, [], ◌∷◌, map, Vec, Global, Option, Some, refl, sym, ap, subst, ◌∙◌}
use Rattle.std.specs.Prelude.{All}
use Rattle.std.specs.List.{flat_map}
use Rattle.std.specs.Io.KnownBytes.{Appends}
use Rattle.std.proofs.Math.Nat.{mod-eq_of_lt}
use Rattle.std.proofs.lemmas.Grind.{flat_map-append}
use Rattle.std.proofs.lemmas.List.Folds.{flat_map-map}
use Rattle.std.proofs.lemmas.List.Elements.{All-nil, All-cons, All-head, All-tail, All-map}
use Rattle.ffv1_bits.specs.Parity.{AreBytes}
use Rattle.ffv1_range.specs.declared.scope.Scope.TheVariants.{Version3}
use Rattle.ffv1_range.proofs.SetupLaws.{record_is_one, parities_are_wider}
use Rattle.ffv1_slice.specs.Slices.{IsOriginal}
use Rattle.ffv1_holding.specs.Reels.{Reel}
use Rattle.ffv1_holding.specs.Contents.{Contents, holding_of}
use Rattle.ffv1_holding.specs.Originals.{AreCopiesOfSlices}
use Rattle.ffv1_holding.specs.declared.recordings.Recordings.TheVariants.{Any}
use Rattle.ffv1_holding.proofs.Reels.{own_size, has_parities}
use Rattle.ffv1_holding.proofs.ExactlyHeld.{near_are_copies}
use Rattle.ffv1_hold.proofs.TextLaws.{one_text}
use Rattle.ffv1_picture.specs.Frames.{planes_of}
use Rattle.ffv1_player.specs.Frames.{planes_of_samples, IsSameFrame}
use Rattle.ffv1_player.specs.Shown.{SaysRecording, ShowsHolding}
use Rattle.ffv1_player.specs.ShownSlices.{ShowsEachSlice}
use Rattle.ffv1_player.specs.Written.{sample_bytes, plane_bytes, samples_bytes}
use Rattle.ffv1_player.specs.declared.samples.Samples.{Samples}
use Rattle.ffv1_player.specs.declared.samples.SliceEnd.{SliceEnd}
use Rattle.ffv1_player.specs.declared.shown.Shown.{Shown}
use Rattle.ffv1_player.specs.declared.shown.ShownTile.TheVariants.{Decoded}
use Rattle.ffv1_player.proofs.ShownSlices as shown_slices
use Rattle.ffv1_player.proofs.PlayedSlices.{keyframe_is_shown}
use Rattle.ffv1_player.proofs.ProfilePictures.{profile_is_shown_alike}
use Rattle.ffv1_commands.specs.TakenFrames.{as_taken, IsTakenReel}
use Rattle.ffv1_commands.specs.AnyPictureText.{IsShownWhole, AnyPictureStops}
use Rattle.ffv1_commands.specs.AnyPictureLaws.{ShowsAnyOnly, AnyPictureShowsTheOriginal, AnyPictureShowsNearCopies, AnyPictureShowsTheKeyframe, PicturesAreAlike}
use Rattle.ffv1_commands.specs.Commands.{IsNoFaultOfBytes}
use Rattle.ffv1_commands.specs.declared.fault.CliFault.{CliFault}
use Rattle.ffv1_commands.specs.declared.fault.CliFault.TheVariants as faults
use Rattle.ffv1_commands.proofs.CommandLaws.{IsFileOfCopies, read_taken, made, made_no_fault, is_reel, exact, own, same_reel}

-- as it is taken, a holding is shown the same
shown_taken : (h : Contents) (shown : Shown) → ShowsHolding h shown → ShowsHolding (as_taken Any h) shown
shown_taken h shown shows = record {
  recording = shows.recording;
  says = shows.says;
  key = shows.key;
  may_be = shows.may_be;
  known = shows.known;
  shows = record {
    pictures = shows.shows.pictures;
    count = shows.shows.count;
    stated = shows.shows.stated;
    each = shows.shows.each;
    is_frame = shows.shows.is_frame;
  };
}

module _ (config : List ℕ) (width height : ℕ) (reel : Reel) (copies : List (List ℕ)) (file original : List ℕ) (slices : List (List ℕ))
    (of_record : IsTakenReel Any config width height reel) (is : IsFileOfCopies Any config width height copies file)
    (is_original : IsOriginal reel.rules original slices) (are : AreCopiesOfSlices reel.rules slices copies) where
  not_shown : (ob oa pb pa : Option (List ℕ)) (fault : CliFault) → AnyPictureStops (Some file) ob oa pb pa fault → IsNoFaultOfBytes fault
  not_shown ob oa pb pa (faults.Read path) stops = tt
  not_shown ob oa pb pa (faults.Write path) stops = tt
  not_shown ob oa pb pa (faults.HoldFile fault) stops = made_no_fault Any config width height copies file is fault stops
  not_shown ob oa pb pa faults.Memory stops = tt
  not_shown ob oa pb pa fault stops = stops

  shows : ShowsAnyOnly reel file slices
  shows = record {
    written = λ ob oa pb pa whole does.
        let same = read_taken Any config width height copies file is does.held does.file in
        let picture = subst (λ (h : Contents). ShowsHolding h does.shown) same (shown_taken does.held does.shown does.picture) in (
          does.shown,
          subst (λ (z : Reel). ShowsEachSlice z slices does.shown)
              (sym (same_reel Any config width height reel copies file original slices of_record is is_original are))
              (shown_slices.exact_shows (holding_of is.reel copies) original slices
              (is_reel Any config width height reel copies file original slices of_record is is_original are)
              (own Any config width height reel copies file original slices of_record is is_original are)
              (exact Any config width height reel copies file original slices of_record is is_original are) does.shown picture),
          does.samples,
          does.is_whole,
        );
    refused = not_shown;
  }

pub any_picture_shows_the_original : AnyPictureShowsTheOriginal
any_picture_shows_the_original config width height reel copies file original slices of_record is is_original are =
    shows config width height reel copies file original slices of_record (made Any config width height copies file is) is_original are

pub any_picture_shows_near_copies : AnyPictureShowsNearCopies
any_picture_shows_near_copies config width height reel copies file original slices of_record is near =
    any_picture_shows_the_original config width height reel copies file original slices of_record is near.is_original
    (near_are_copies reel.rules original slices copies near)

-- ---- a keyframe

bytes_of_planes : (depth : ℕ) (planes : List (Vec ℕ Global)) → flat_map (λ plane. plane_bytes depth plane.items) planes
    ≡ flat_map (plane_bytes depth) (map (λ plane. plane.items) planes)
bytes_of_planes depth planes = sym (flat_map-map (plane_bytes depth) (λ plane. plane.items) planes)

same_bytes : (frame other : Samples) → IsSameFrame frame other → samples_bytes frame ≡ samples_bytes other
same_bytes frame other same =
    bytes_of_planes frame.depth frame.planes.items
    ∙ ap (λ depth. flat_map (plane_bytes depth) (planes_of_samples frame)) same.depth ∙ ap (flat_map (plane_bytes other.depth)) same.planes
    ∙ sym (bytes_of_planes other.depth other.planes.items)

abbrev AreClean : List SliceEnd → Type 0
AreClean ends = All (λ end. end.is_clean ≡ true) ends

clean_of_whole : (ends : List SliceEnd) → All IsShownWhole (map Decoded ends) → AreClean ends
clean_of_whole [] whole = All-nil _
clean_of_whole (end ∷ ends) whole =
    All-cons (λ end. end.is_clean ≡ true) end ends (All-head IsShownWhole (Decoded end) (map Decoded ends) whole)
    (clean_of_whole ends (All-tail IsShownWhole (Decoded end) (map Decoded ends) whole))

pub any_picture_shows_the_keyframe : AnyPictureShowsTheKeyframe
any_picture_shows_the_keyframe config width height reel copies file original slices of_record is is_original are r frame left says played ob oa pb pa whole does =
    let only = any_picture_shows_the_original config width height reel copies file original slices of_record is is_original are in
    let written = only.written ob oa pb pa whole does in
    let (recording, read, is_own) = of_record.1 in
    let parities = has_parities Any config width height recording read in
    let same : recording ≡ r = record_is_one config Version3 width height recording r (parities_are_wider config width height recording parities) says in
    let own_says : SaysRecording of_record.0 recording =
    subst (λ (z : Reel). SaysRecording z recording) (sym is_own) (own_size config width height recording parities) in
    let reel_says : SaysRecording reel r = subst (SaysRecording reel) same (subst (λ (z : Reel). SaysRecording z recording) (sym of_record.2) own_says) in
    let shown = keyframe_is_shown reel r original slices written.0 frame left reel_says is_original written.1 played in (
      subst (Appends ob oa) (same_bytes written.0.samples frame shown.samples) written.2,
      (
        λ true_is. clean_of_whole frame.slices.items (subst (All IsShownWhole) shown.ends (written.3.0 true_is)),
        λ clean. written.3.1 (subst (All IsShownWhole) (sym shown.ends) (All-map IsShownWhole Decoded frame.slices.items clean)),
      ),
    )

-- ---- of the profile

-- at depth 8 a sample is its byte
bytes_kept : (samples : List ℕ) → AreBytes samples → plane_bytes 8 samples ≡ samples
bytes_kept [] are = refl
bytes_kept (sample ∷ samples) are =
    ap (λ byte. byte ∷ plane_bytes 8 samples) (mod-eq_of_lt (are 0)) ∙ ap (λ more. sample ∷ more) (bytes_kept samples (λ i. are (suc i)))

-- so are planes, one after the other
planes_joined : (planes : List (List ℕ)) → flat_map (plane_bytes 8) planes ≡ plane_bytes 8 (flat_map (λ plane. plane) planes)
planes_joined [] = refl
planes_joined (plane ∷ planes) =
    ap (λ more. plane_bytes 8 plane ++ more) (planes_joined planes) ∙ sym (flat_map-append (sample_bytes 8) plane (flat_map (λ plane. plane) planes))

raw_planes : (planes : List (Vec ℕ Global)) → flat_map (λ plane. plane.items) planes ≡ flat_map (λ plane. plane) (map (λ plane. plane.items) planes)
raw_planes planes = sym (flat_map-map (λ (plane : List ℕ). plane) (λ (plane : Vec ℕ Global). plane.items) planes)

pub pictures_are_alike : PicturesAreAlike
pictures_are_alike file one other pb pa mb ma whole all are a b =
    let same : b.held ≡ a.held = one_text b.held a.held file b.file.well_formed a.file.well_formed b.file.fits.record' a.file.fits.record'
    (b.file.version, b.file.fits.stated, b.file.fits.tells, b.file.text) (a.file.version, a.file.fits.stated, a.file.fits.tells, a.file.text) in
    let shown = subst (λ (h : Contents). ShowsHolding h b.shown) same b.picture in
    let alike = profile_is_shown_alike a.held a.shown b.shown a.file.well_formed a.file.taken a.picture shown in
    let raw : one ≡ flat_map (λ plane. plane) (planes_of a.shown.frame) = a.samples ∙ raw_planes a.shown.frame.planes.items in
    let bytes = bytes_of_planes b.shown.samples.depth b.shown.samples.planes.items
    ∙ ap (λ depth. flat_map (plane_bytes depth) (planes_of_samples b.shown.samples)) alike.0
    ∙ ap (flat_map (plane_bytes 8)) alike.1 ∙ planes_joined (planes_of a.shown.frame) in
    sym (b.samples ∙ bytes ∙ ap (plane_bytes 8) (sym raw) ∙ bytes_kept one are)
