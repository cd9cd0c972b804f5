-- A check of a file that is read from a source, item by item.
use Rattle.std.proofs.Common.{◌≡◌, ℕ, ◌+◌, ◌-◌, ◌^◌, ◌<◌, List, [], ◌∷◌, ◌++◌, length, refl, sym, ap, ◌∙◌, subst, arith, zero-add}
use Rattle.std.specs.Prelude.{Option}
use Rattle.std.proofs.lemmas.List.{length-append}
use Rattle.ffv1_bits.proofs.Bytes.{no_bytes}
use Rattle.ffv1_devices.specs.Logs.{ReadLog}
use Rattle.ebml.specs.Items.{ItemValue, bytes_of_items}
use Rattle.ffv1_devices.proofs.Steps.{Reads-nil}
use Rattle.ebml_reader.specs.Reader.{Held, nothing_held, StandsAfter}
use Rattle.ebml_reader.specs.declared.starts.ItemStart.{ItemStart}
use Rattle.ebml_reader.specs.Starts.{StartsItem, EndsItem, PassesItemOf}
use Rattle.ebml_reader.proofs.StartSteps.{stands_passed}
use Rattle.ebml.proofs.ItemList.{some_bytes, bytes_of_snoc}
use Rattle.matroska_parts.specs.SourceParts.{KnownTracks}
use Rattle.matroska_parts.specs.StreamedParts.{IsPlacedAt}
use Rattle.matroska_parts.proofs.PlacedSteps.{placed_after, placed_room, placed_items, whole_passed, whole_long}
use Rattle.ffv1_check.specs.Inner.TakenParts.{ReportsParts}
use Rattle.matroska.specs.declared.track.Track.{Track}
use Rattle.matroska_parts.specs.declared.parts.Part.{Part}
use Rattle.matroska_parts.specs.ItemParts.{PlacedContent, AreItemPartsBy, AreItemParts}
use Rattle.matroska_parts.proofs.FileSteps.{items_snoc}
use Rattle.ffv1_check.specs.declared.report.Reporter.{Reporter}
use Rattle.ffv1_check.specs.Inner.Stands.{ReporterStands}

pub record CheckSoFar (first : ReadLog) (found : Option PlacedContent) (tracks : List Track) (held : Held) (reporter : Reporter) (now : ReadLog) (place : ℕ) : Type 0 where
  pub items : List ItemValue
  pub stands : StandsAfter first items held now
  pub at : place ≡ length (bytes_of_items items)
  pub parts : List Part
  pub have : AreItemParts found tracks 0 items parts
  pub reports : ReporterStands (length tracks) parts reporter

pub check_none : (first : ReadLog) (found : Option PlacedContent) (tracks : List Track) (held : Held) (reporter : Reporter) → held ≡ nothing_held
    → ReporterStands (length tracks) [] reporter → CheckSoFar first found tracks held reporter first 0
check_none first found tracks held reporter none stands =
    subst (λ h. CheckSoFar first found tracks h reporter first 0) (sym none)
    record {
      items = [];
      stands = record { reads = Reads-nil first; are = no_bytes; counted = refl; end = λ ended. absurd cc; each = λ more ends. tt };
      at = refl;
      parts = [];
      have = refl;
      reports = stands;
    }

module _ (first x y z : ReadLog) (known : KnownTracks) (place : ℕ) (start : ItemStart) (old mid new : Held) (r r1 : Reporter)
    (so_far : CheckSoFar first known.first known.tracks old r x place) (starts : StartsItem start old mid x y) (rest : List ℕ) (n : ℕ) (counted : n ≡ length rest)
    (ends : EndsItem start.kind rest mid new y z) where
  whole : PassesItemOf start.kind (starts.bytes ++ rest) old new x z
  whole = whole_passed start old mid new x y z starts rest ends

  long : start.length + n ≡ length (starts.bytes ++ rest)
  long = whole_long start old mid new x y z starts rest n counted

  pub check_room : place + (start.length + n) < 2 ^ 63
  check_room =
      let placed = placed_after place (starts.bytes ++ rest) old new x z whole.passes (placed_items first x so_far.items old place so_far.stands so_far.at) in
      let room = placed_room (place + length (starts.bytes ++ rest)) new placed whole.bounded in
      omega (arith, room, long)

  pub check_less : 2 ^ 63 - (place + (start.length + n)) < 2 ^ 63 - place
  check_less =
      let some = some_bytes start.kind (starts.bytes ++ rest) (new.bytes ++ []) (whole.is [] (λ _. refl)) in
      let room = check_room in
      omega (arith, some, long, room)

  pub check_on : ReportsParts (length known.tracks) (AreItemPartsBy start.kind known.first known.tracks place (starts.bytes ++ rest)) r r1
      → CheckSoFar first known.first known.tracks new r1 z (place + (start.length + n))
  check_on reports =
      let own = reports so_far.parts so_far.reports in
      record {
        items = so_far.items ++ record { kind = start.kind; bytes = starts.bytes ++ rest } ∷ [];
        stands = stands_passed first x z so_far.items start.kind (starts.bytes ++ rest) old new so_far.stands whole;
        at = ap (λ k. place + k) long ∙ ap (λ k. k + length (starts.bytes ++ rest)) so_far.at ∙ sym (length-append (bytes_of_items so_far.items) (starts.bytes ++ rest))
            ∙ ap length (sym (bytes_of_snoc so_far.items record { kind = start.kind; bytes = starts.bytes ++ rest }));
        parts = so_far.parts ++ own.0;
        have = items_snoc known.first known.tracks 0 so_far.items so_far.parts record { kind = start.kind; bytes = starts.bytes ++ rest } own.0 so_far.have
            (subst (λ p. AreItemPartsBy start.kind known.first known.tracks p (starts.bytes ++ rest) own.0) (so_far.at ∙ sym (zero-add (length (bytes_of_items so_far.items)))) own.1);
        reports = own.2;
      }

pub start_placed : (first x y : ReadLog) (found : Option PlacedContent) (tracks : List Track) (place : ℕ) (start : ItemStart) (old mid : Held) (r : Reporter)
    → CheckSoFar first found tracks old r x place → (starts : StartsItem start old mid x y) → IsPlacedAt (place + start.length) mid
start_placed first x y found tracks place start old mid r so_far starts =
    subst (λ n. IsPlacedAt (place + n) mid) (sym starts.long)
    (placed_after place starts.bytes old mid x y starts.passes (placed_items first x so_far.items old place so_far.stands so_far.at))
