-- One stretch more of a pass.
use Rattle.std.proofs.Common.{◌≡◌, ℕ, suc, ◌+◌, ◌<◌, ◌≤◌, Bool, true, ◌&&◌, List, [], ◌∷◌, ◌++◌, Option, None, length, get_or, take, drop, map, replicate, refl, sym, ap, ◌∙◌, subst, arith, Ok, Err}
use Rattle.std.proofs.Math.Bool.{and-true}
use Rattle.std.specs.Prelude.{All, IfSome}
use Rattle.std.specs.List.{AllZip, fold, list_all}
use Rattle.std.proofs.lemmas.Grind.{flat_map-append}
use Rattle.std.proofs.lemmas.List.{append_assoc, append-nil, length-append, length-map, length-replicate, length-take-le, take_more, take_all}
use Rattle.std.proofs.lemmas.List.Folds.{list_all-append}
use Rattle.std.proofs.lemmas.List.Sums.{fold-append}
use Rattle.std.proofs.lemmas.List.Elements.{All-nil, All-cons, All-head, All-tail}
use Rattle.ffv1_devices.specs.Logs.{ReadLog, WriteLog, Writes, StopsWriting}
use Rattle.ffv1_devices.specs.Exact.{StopsReading}
use Rattle.ffv1_devices.proofs.Steps.{Reads-nil, Writes-nil, Writes-trans, StopsWriting-after}
use Rattle.ffv1_mend.specs.Mended.{MendedValue, is_good}
use Rattle.ffv1_mend.proofs.PartSteps.{zip_push}
use Rattle.ffv1_stretches.specs.declared.pass.MendFault.{MendFault}
use Rattle.ffv1_stretches.specs.declared.pass.MendFault.TheVariants as faults
use Rattle.ffv1_stretches.specs.Stretches.{StretchValue, IsStretchOf, FollowsStretch, ends_after, ends_of, AreInOrder}
use Rattle.ffv1_stretches.specs.Cells.{cells_of, IsStretchMend}
use Rattle.ffv1_stretches.specs.Inner.CellSteps.{HasVersion, IsAsLong, HasRoom, held_cells}
use Rattle.ffv1_stretches.specs.Copies.{CopyState, state_of}
use Rattle.ffv1_stretches.specs.declared.copy.CopyReader.{CopyReader}
use Rattle.ffv1_stretches.specs.Lines.{stretch_text, mend_text}
use Rattle.ffv1_stretches.specs.Inner.PassSteps.{CopyStep, AreSteps, StopsCopies, ReadsEach, MendsOne}
use Rattle.ffv1_stretches.specs.Passes.{AreRead, AreReadBut, MendsFront, bytes_of, MendsAll, StopsMending}
use Rattle.ffv1_stretches.proofs.EndSteps.{moved_ends}
use Rattle.ffv1_stretches.proofs.ListLemmas.{ends_of-push}
use Rattle.ffv1_stretches.proofs.OrderLemmas.{in_order_last, in_order_front}
use Rattle.ffv1_stretches.proofs.Pairs.{pairs_so, pairs_long}
use Rattle.ffv1_stretches.proofs.PassLemmas.{parted_at}
use Rattle.ffv1_stretches.proofs.FileLemmas.{joined, AreReadAs, ends_are_lengths, as_many_files, all_are_read, places_of, olds_of, mores_of, read_on, held_all, cells_here, ends_on, stopped_mores, but_one_read, all_read_so_far, stopped_most, stopped_short, earlier_have, at_boundary, long_cells, has_version, AreBelow, Rise, most_later, ends_rise, kept_all, text_push}

abbrev pub ends_at : List CopyState → List ℕ
ends_at states = map (λ state. state.end) states

abbrev pub rooms_at : List CopyState → List (List ℕ)
rooms_at states = map (λ state. state.room) states

abbrev pub logs_at : List CopyState → List ReadLog
logs_at states = map (λ state. state.log) states

-- What becomes of the stretches of a front was written and printed, the copies were read to the ends of these, and this is whether all
-- are good.
pub record IsMended (copies : ℕ) (front : List StretchValue) (olds : List ReadLog) (states : List CopyState) (out_old out_new output_old output_new : WriteLog)
    (good : Bool) : Type 0 where
  pub files : List (List ℕ)
  pub read : AreReadAs olds states files
  pub ends : ends_at states ≡ ends_of copies front
  pub mended : List MendedValue
  pub outcomes : AllZip (λ stretch one. IsStretchMend (cells_of files stretch) stretch one) front mended
  pub wrote : Writes out_old out_new (bytes_of mended)
  pub printed : Writes output_old output_new (mend_text 1 files front mended)
  pub all : good ≡ list_all (λ one. is_good one.state) mended

-- ---- copies as they are held

module _ {S : Type 0} (log : S → ReadLog) where
  pub logs_of_states : (copies : List (CopyReader S)) → logs_at (map (state_of log) copies) ≡ map (λ copy. log copy.source) copies
  logs_of_states [] = refl
  logs_of_states (r ∷ copies) = ap (λ more. log r.source ∷ more) (logs_of_states copies)

  pub rooms_of_states : (copies : List (CopyReader S)) → rooms_at (map (state_of log) copies) ≡ map (λ copy. copy.room.items) copies
  rooms_of_states [] = refl
  rooms_of_states (r ∷ copies) = ap (λ more. r.room.items ∷ more) (rooms_of_states copies)

  pub unread_states : (copies : List (CopyReader S)) → All (λ copy. (state_of log copy).end ≡ 0) copies
      → All (λ state. state.end ≡ 0) (map (state_of log) copies)
  unread_states [] unread = All-nil (λ (state : CopyState). state.end ≡ 0)
  unread_states (r ∷ copies) unread =
      All-cons (λ (state : CopyState). state.end ≡ 0) (state_of log r) (map (state_of log) copies)
      (All-head (λ copy. (state_of log copy).end ≡ 0) r copies unread) (unread_states copies (All-tail (λ copy. (state_of log copy).end ≡ 0) r copies unread))

-- ---- before the first

read_none : (states : List CopyState) → All (λ state. state.end ≡ 0) states → AreReadAs (logs_at states) states (map (λ state. []) states)
read_none [] unread = tt
read_none (s ∷ states) unread =
    ((Reads-nil s.log, sym (All-head (λ state. state.end ≡ 0) s states unread)), read_none states (All-tail (λ state. state.end ≡ 0) s states unread))

ends_none : (states : List CopyState) → All (λ state. state.end ≡ 0) states → ends_at states ≡ replicate (length states) 0
ends_none [] unread = refl
ends_none (s ∷ states) unread =
    ap (λ e. e ∷ ends_at states) (All-head (λ state. state.end ≡ 0) s states unread)
    ∙ ap (λ es. 0 ∷ es) (ends_none states (All-tail (λ state. state.end ≡ 0) s states unread))

pub mended_none : (states : List CopyState) (out output : WriteLog) → All (λ state. state.end ≡ 0) states
    → IsMended (length states) [] (logs_at states) states out out output output true
mended_none states out output unread = record {
  files = map (λ state. []) states;
  read = read_none states unread;
  ends = ends_none states unread;
  mended = [];
  outcomes = tt;
  wrote = Writes-nil out;
  printed = Writes-nil output;
  all = refl;
}

-- ---- what a front is worth

below_as : (ends : List ℕ) (files : List (List ℕ)) → AllZip (λ end file. length file ≡ end) ends files → AreBelow ends files
below_as ends files are = pairs_so (λ end file. length file ≡ end) (λ end file. end ≤ length file) (λ end file e. omega arith) ends files are

most_as : (ends : List ℕ) (files : List (List ℕ)) → AllZip (λ end file. length file ≡ end) ends files → AllZip (λ end file. length file ≤ end) ends files
most_as ends files are = pairs_so (λ end file. length file ≡ end) (λ end file. length file ≤ end) (λ end file e. omega arith) ends files are

length-ends_of : (copies : ℕ) (all : List StretchValue) → AreInOrder copies (replicate copies 0) all → length (ends_of copies all) ≡ copies
length-ends_of copies all order = sym (pairs_long (λ end after. end ≤ after) (replicate copies 0) (ends_of copies all)
    (ends_rise copies (replicate copies 0) all order (length-replicate copies 0))) ∙ length-replicate copies 0

length-joined : (files mores : List (List ℕ)) → length mores ≡ length files → length (joined files mores) ≡ length files
unfolding joined
length-joined [] mores long = refl
length-joined (f ∷ files) [] long = absurd (omega arith)
length-joined (f ∷ files) (m ∷ mores) long = omega (arith, length-joined files mores (omega arith))

joined_longer : (ends : List ℕ) (files mores : List (List ℕ)) → length mores ≡ length files → AreBelow ends files → AreBelow ends (joined files mores)
unfolding joined
joined_longer [] [] mores long below = tt
joined_longer [] (f ∷ files) mores long below = absurd below
joined_longer (e ∷ ends) [] mores long below = absurd below
joined_longer (e ∷ ends) (f ∷ files) [] long below = absurd (omega arith)
joined_longer (e ∷ ends) (f ∷ files) (m ∷ mores) long below =
    (omega (arith, below.0, length-append f m), joined_longer ends files mores (omega arith) below.1)

module _ (copies : ℕ) (stretches front : List StretchValue) (s : StretchValue) (rest : List StretchValue) (split : stretches ≡ front ++ s ∷ rest)
    (order : AreInOrder copies (replicate copies 0) stretches) (olds : List ReadLog) (states : List CopyState) (a b x y : WriteLog) (good : Bool)
    (so_far : IsMended copies front olds states a b x y good) (count : length states ≡ copies) where
  files : List (List ℕ)
  files = so_far.files

  in_order : AreInOrder copies (replicate copies 0) (front ++ s ∷ rest)
  in_order = subst (AreInOrder copies (replicate copies 0)) split order

  front_order : AreInOrder copies (replicate copies 0) front
  front_order = in_order_front copies (replicate copies 0) front (s ∷ rest) in_order

  pub is_stretch : IsStretchOf copies s
  is_stretch = (in_order_last copies (replicate copies 0) front s rest in_order).0

  pub follows : FollowsStretch (ends_at states) s
  follows = subst (λ es. FollowsStretch es s) (sym so_far.ends) (in_order_last copies (replicate copies 0) front s rest in_order).1

  many : length so_far.files ≡ copies
  many = as_many_files olds states so_far.files so_far.read ∙ count

  below : AreBelow (ends_of copies front) so_far.files
  below = subst (λ es. AreBelow es so_far.files) so_far.ends (below_as (ends_at states) so_far.files (ends_are_lengths olds states so_far.files so_far.read))

  joined_split : stretches ≡ (front ++ s ∷ []) ++ rest
  joined_split = split ∙ sym (append_assoc front (s ∷ []) rest)

  -- the ends of a front rise to those of all
  rises_to : (some later : List StretchValue) → AreInOrder copies (replicate copies 0) (some ++ later) → Rise (ends_of copies some) (ends_of copies (some ++ later))
  rises_to some later all =
      subst (Rise (ends_of copies some)) (sym (fold-append ends_after (replicate copies 0) some later))
      (ends_rise copies (ends_of copies some) later (order_after copies (replicate copies 0) some later all)
      (length-ends_of copies some (in_order_front copies (replicate copies 0) some later all)))
    where
      order_after : (copies : ℕ) (ends : List ℕ) (some later : List StretchValue) → AreInOrder copies ends (some ++ later)
          → AreInOrder copies (fold ends_after ends some) later
      order_after copies ends [] later all = all
      order_after copies ends (t ∷ some) later all = order_after copies (ends_after ends t) some later all.2

  -- the stretches of the front are as they were, with more read
  module _ (mores : List (List ℕ)) (as_many : length mores ≡ length so_far.files)
      (most : AllZip (λ end file. length file ≤ end) (ends_after (ends_of copies front) s) (joined so_far.files mores)) where
    abbrev more_files : List (List ℕ)
    more_files = joined so_far.files mores

    kept : AllZip (λ stretch one. IsStretchMend (cells_of more_files stretch) stretch one) front so_far.mended
        × (mend_text 1 more_files front so_far.mended ≡ mend_text 1 so_far.files front so_far.mended)
    kept = kept_all copies 1 (replicate copies 0) front so_far.mended so_far.files mores front_order (length-replicate copies 0) below as_many so_far.outcomes

    more_many : length more_files ≡ copies
    more_many = length-joined so_far.files mores as_many ∙ many

    most_all : AllZip (λ end file. length file ≤ end) (ends_of (length more_files) stretches) more_files
    most_all =
        subst (λ n. AllZip (λ end file. length file ≤ end) (ends_of n stretches) more_files) (sym more_many)
        (subst (λ all. AllZip (λ end file. length file ≤ end) (ends_of copies all) more_files) (sym joined_split)
        (most_later (ends_of copies (front ++ s ∷ [])) (ends_of copies ((front ++ s ∷ []) ++ rest)) more_files
        (subst (λ es. AllZip (λ end file. length file ≤ end) es more_files) (sym (ends_of-push copies front s)) most)
        (rises_to (front ++ s ∷ []) rest (subst (AreInOrder copies (replicate copies 0)) joined_split order))))

    pub front_more : MendsFront stretches front more_files so_far.mended
    front_more = record {
      rest = s ∷ rest;
      split = split;
      outcomes = kept.0;
      least = subst (λ n. AreBelow (ends_of n front) more_files) (sym more_many) (joined_longer (ends_of copies front) so_far.files mores as_many below);
      most = most_all;
    }

    pub same_text : mend_text 1 more_files front so_far.mended ≡ mend_text 1 so_far.files front so_far.mended
    same_text = kept.1

  -- ---- a copy stopped

  stopped_many : {Went : ReadLog → ReadLog → List ℕ → Type 0} (news : List CopyState) (stops : StopsCopies Went s.size s.places states news)
      → length (stopped_mores s.size stops.steps stops.more stops.rest) ≡ length so_far.files
  stopped_many news stops =
      omega (
        arith,
        length-append (mores_of stops.steps) (stops.more ∷ map (λ (t : CopyState). []) stops.rest),
        length-map stops.steps (λ (t : CopyStep s.size). t.more),
        length-map {B = List ℕ} stops.rest (λ (t : CopyState). []),
        ap length stops.olds',
        length-append (olds_of stops.steps) (stops.old ∷ stops.rest),
        length-map stops.steps (λ (t : CopyStep s.size). t.old),
        as_many_files olds states so_far.files so_far.read,
      )

  -- what was read until a copy stopped
  read_until : {Went : ReadLog → ReadLog → List ℕ → Type 0} (news : List CopyState) (stops : StopsCopies Went s.size s.places states news)
      → AreReadAs olds (olds_of stops.steps ++ stops.old ∷ stops.rest) so_far.files
  read_until news stops = subst (λ ss. AreReadAs olds ss so_far.files) stops.olds' so_far.read

  stopped_ends : {Went : ReadLog → ReadLog → List ℕ → Type 0} (news : List CopyState) (stops : StopsCopies Went s.size s.places states news)
      → AllZip (λ end file. length file ≤ end) (ends_after (ends_of copies front) s) (joined so_far.files (stopped_mores s.size stops.steps stops.more stops.rest))
  stopped_ends {Went} news stops =
      let read = read_until news stops in
      let after = subst (λ ps. FollowsStretch (ends_at (olds_of stops.steps ++ stops.old ∷ stops.rest)) (record s { places = ps })) stops.places'
      (subst (λ ss. FollowsStretch (ends_at ss) s) stops.olds' follows) in
      subst (λ es. AllZip (λ end file. length file ≤ end) (moved_ends s.size es s.places) (joined so_far.files (stopped_mores s.size stops.steps stops.more stops.rest)))
      (ap ends_at (sym stops.olds') ∙ so_far.ends)
      (subst (λ ps. AllZip (λ end file. length file ≤ end) (moved_ends s.size (ends_at (olds_of stops.steps ++ stops.old ∷ stops.rest)) ps)
      (joined so_far.files (stopped_mores s.size stops.steps stops.more stops.rest))) (sym stops.places')
      (stopped_most s.size Went stops.steps stops.place stops.old stops.new stops.more stops.later stops.rest olds so_far.files stops.stop read after))

  -- it leaves the stretches of the front as they were
  front_until : {Went : ReadLog → ReadLog → List ℕ → Type 0} (news : List CopyState) (stops : StopsCopies Went s.size s.places states news)
      → MendsFront stretches front (joined so_far.files (stopped_mores s.size stops.steps stops.more stops.rest)) so_far.mended
  unfolding front_more
  front_until news stops = front_more (stopped_mores s.size stops.steps stops.more stops.rest) (stopped_many news stops) (stopped_ends news stops)

  printed_until : {Went : ReadLog → ReadLog → List ℕ → Type 0} (news : List CopyState) (stops : StopsCopies Went s.size s.places states news)
      → Writes x y (mend_text 1 (joined so_far.files (stopped_mores s.size stops.steps stops.more stops.rest)) front so_far.mended)
  printed_until news stops =
      subst (Writes x y) (sym (same_text (stopped_mores s.size stops.steps stops.more stops.rest) (stopped_many news stops) (stopped_ends news stops)))
      so_far.printed

  abbrev HaveWhole : ℕ → List (Option ℕ) → List (List ℕ) → Type 0
  HaveWhole n places files = AllZip (λ start file. IfSome start (λ begin. begin + s.size ≤ length file)) (take n places) (take n files)

  pub reading_stops : (T : Type 0) (news : List CopyState) (fault : MendFault) → ReadsEach {T = T} s.size s.places (Err fault) states news
      → StopsMending stretches olds (logs_at news) a b x y fault
  unfolding front_more front_until
  reading_stops T news (faults.Read copy) stop =
      let stops = stop.0 in
      let mores = stopped_mores s.size stops.steps stops.more stops.rest in
      let read = read_until news stops in (
        front,
        joined so_far.files mores,
        so_far.mended,
        subst (λ n. AreReadBut n olds (logs_at news) (joined so_far.files mores)) (sym stop.1)
            (subst (λ ns. AreReadBut (length stops.steps) olds (logs_at ns) (joined so_far.files mores)) (sym stops.news')
            (but_one_read s.size stops.steps stops.old stops.new stops.more stops.rest olds so_far.files stops.stop.went read)),
        front_until news stops,
        record {
          stretch = s;
          later = rest;
          first = refl;
          place = stops.stop.start;
          there = ap (λ (ps : List (Option ℕ)). get_or ps copy None) stops.places'
              ∙ ap (λ n. get_or (places_of stops.steps ++ stops.place ∷ stops.later) n None) (stop.1 ∙ sym (length-map stops.steps (λ (t : CopyStep s.size). t.place)))
              ∙ at_boundary (places_of stops.steps) stops.place stops.later None ∙ stops.stop.there;
          short = subst (λ n. length (get_or (joined so_far.files mores) n []) < stops.stop.start + s.size) (sym stop.1)
              (stopped_short s.size StopsReading stops.steps stops.place stops.old stops.new stops.more stops.rest olds so_far.files stops.stop read);
          earlier = subst (λ n. HaveWhole n s.places (joined so_far.files mores)) (sym stop.1)
              (subst (λ ps. HaveWhole (length stops.steps) ps (joined so_far.files mores)) (sym stops.places')
              (earlier_have s.size stops.steps stops.place stops.old stops.more stops.later stops.rest olds so_far.files read));
        },
        so_far.wrote,
        printed_until news stops,
      )
  reading_stops T news faults.Memory stops =
      let mores = stopped_mores s.size stops.steps stops.more stops.rest in (
        front,
        joined so_far.files mores,
        so_far.mended,
        subst (λ ns. AreRead olds (logs_at ns) (joined so_far.files mores)) (sym stops.news')
            (all_read_so_far s.size stops.steps stops.old stops.new stops.more stops.rest olds so_far.files stops.stop.went (read_until news stops)),
        front_until news stops,
        so_far.wrote,
        printed_until news stops,
      )
  reading_stops T news faults.Out stop = absurd stop
  reading_stops T news faults.Output stop = absurd stop

  -- ---- the stretch was read

  module _ (news : List CopyState) (steps : List (CopyStep s.size)) (are : AreSteps s.size s.places states news steps) where
    abbrev mores : List (List ℕ)
    mores = mores_of steps

    abbrev next_files : List (List ℕ)
    next_files = joined so_far.files mores

    old_read : AreReadAs olds (olds_of steps) so_far.files
    old_read = subst (λ ss. AreReadAs olds ss so_far.files) are.olds' so_far.read

    next_read : AreReadAs olds news next_files
    next_read = subst (λ ss. AreReadAs olds ss next_files) (sym are.news') (read_on s.size steps olds so_far.files old_read)

    next_many : length mores ≡ length so_far.files
    next_many = length-map steps (λ (t : CopyStep s.size). t.more) ∙ sym (length-map steps (λ (t : CopyStep s.size). t.old))
        ∙ ap length (sym are.olds') ∙ sym (as_many_files olds states so_far.files so_far.read)

    next_ends : ends_at news ≡ ends_after (ends_of copies front) s
    next_ends =
        ap ends_at are.news' ∙ ends_on s.size steps
        ∙ ap (λ es. moved_ends s.size es (places_of steps)) (ap ends_at (sym are.olds') ∙ so_far.ends)
        ∙ ap (moved_ends s.size (ends_of copies front)) (sym are.places')

    pub news_count : length news ≡ length states
    news_count = ap length are.news' ∙ length-map steps (λ (t : CopyStep s.size). t.new) ∙ sym (length-map steps (λ (t : CopyStep s.size). t.old))
        ∙ ap length (sym are.olds')

    next_most : AllZip (λ end file. length file ≤ end) (ends_after (ends_of copies front) s) next_files
    next_most = subst (λ es. AllZip (λ end file. length file ≤ end) es next_files) next_ends
        (most_as (ends_at news) next_files (ends_are_lengths olds news next_files next_read))

    pub held : AllZip (HasRoom s.size) s.places (rooms_at news)
    held =
        subst (λ ps. AllZip (HasRoom s.size) ps (rooms_at news)) (sym are.places')
        (subst (λ ns. AllZip (HasRoom s.size) (places_of steps) (rooms_at ns)) (sym are.news') (held_all s.size steps))

    pub cells_are : held_cells s.size s.places (rooms_at news) ≡ cells_of next_files s
    cells_are =
        ap (λ ps. held_cells s.size ps (rooms_at news)) are.places' ∙ ap (λ ns. held_cells s.size (places_of steps) (rooms_at ns)) are.news'
        ∙ cells_here s.size steps olds so_far.files old_read
        ∙ ap (λ ps. cells_of next_files (record s { places = ps })) (sym are.places')

    places_many : length s.places ≡ length (rooms_at news)
    places_many = is_stretch.count ∙ sym count ∙ sym news_count ∙ sym (length-map news (λ (t : CopyState). t.room))

    pub cells_long : All (IsAsLong s.size) (held_cells s.size s.places (rooms_at news))
    cells_long = long_cells s.size s.places (rooms_at news) held

    pub cells_from : HasVersion (held_cells s.size s.places (rooms_at news)) s.from
    cells_from = has_version s.size s.places (rooms_at news) s.from places_many is_stretch.from

    -- memory was refused before anything of it was written
    pub front_stays : StopsMending stretches olds (logs_at news) a b x y faults.Memory
    front_stays = (
      front,
      next_files,
      so_far.mended,
      all_are_read olds news next_files next_read,
      front_more mores next_many next_most,
      so_far.wrote,
      subst (Writes x y) (sym (same_text mores next_many next_most)) so_far.printed,
    )

    module _ (one : MendedValue) (outcome : IsStretchMend (held_cells s.size s.places (rooms_at news)) s one) where
      abbrev next_mended : List MendedValue
      next_mended = so_far.mended ++ one ∷ []

      kept' : AllZip (λ stretch one. IsStretchMend (cells_of next_files stretch) stretch one) front so_far.mended
      kept' = (front_more mores next_many next_most).outcomes

      next_outcomes : AllZip (λ stretch one. IsStretchMend (cells_of next_files stretch) stretch one) (front ++ s ∷ []) next_mended
      next_outcomes = zip_push (λ stretch one. IsStretchMend (cells_of next_files stretch) stretch one) front so_far.mended s one kept'
          (subst (λ cells. IsStretchMend cells s one) cells_are outcome)

      next_bytes : bytes_of next_mended ≡ bytes_of so_far.mended ++ one.bytes
      next_bytes = flat_map-append (λ (m : MendedValue). m.bytes) so_far.mended (one ∷ []) ∙ ap (λ last. bytes_of so_far.mended ++ last) (append-nil one.bytes)

      next_text : mend_text 1 next_files (front ++ s ∷ []) next_mended
          ≡ mend_text 1 so_far.files front so_far.mended ++ stretch_text (1 + length front) (held_cells s.size s.places (rooms_at news)) s one
      next_text =
          text_push 1 next_files front so_far.mended s one kept'
          ∙ ap (λ lines. lines ++ stretch_text (1 + length front) (cells_of next_files s) s one) (same_text mores next_many next_most)
          ∙ ap (λ cells. mend_text 1 so_far.files front so_far.mended ++ stretch_text (1 + length front) cells s one) (sym cells_are)

      next_front : MendsFront stretches (front ++ s ∷ []) next_files next_mended
      next_front =
          let all = front_more mores next_many next_most in
          let many' : length next_files ≡ copies = as_many_files olds news next_files next_read ∙ news_count ∙ count in
          record {
            rest = rest;
            split = joined_split;
            outcomes = next_outcomes;
            least = subst (λ n. AreBelow (ends_of n (front ++ s ∷ [])) next_files) (sym many')
                (subst (λ es. AreBelow es next_files) (next_ends ∙ sym (ends_of-push copies front s))
                (below_as (ends_at news) next_files (ends_are_lengths olds news next_files next_read)));
            most = all.most;
          }

      -- OUT was given up
      pub out_stops : (c : WriteLog) → StopsWriting b c one.bytes → StopsMending stretches olds (logs_at news) a c x y faults.Out
      out_stops c stop = (
        front,
        s,
        next_files,
        so_far.mended,
        one,
        all_are_read olds news next_files next_read,
        next_front,
        subst (StopsWriting a c) (sym next_bytes) (StopsWriting-after a b c _ _ so_far.wrote stop),
        subst (Writes x y) (sym (same_text mores next_many next_most)) so_far.printed,
      )

      -- the output was given up
      pub output_stops : (c z : WriteLog) → Writes b c one.bytes
          → StopsWriting y z (stretch_text (1 + length front) (held_cells s.size s.places (rooms_at news)) s one)
          → StopsMending stretches olds (logs_at news) a c x z faults.Output
      output_stops c z wrote stop = (
        front ++ s ∷ [],
        next_files,
        next_mended,
        all_are_read olds news next_files next_read,
        next_front,
        subst (Writes a c) (sym next_bytes) (Writes-trans a b c _ _ so_far.wrote wrote),
        subst (StopsWriting x z) (sym next_text) (StopsWriting-after x y z _ _ so_far.printed stop),
      )

      -- both were written
      pub mended_more : (c z : WriteLog) → Writes b c one.bytes
          → Writes y z (stretch_text (1 + length front) (held_cells s.size s.places (rooms_at news)) s one) → (own : Bool) → own ≡ is_good one.state
          → IsMended copies (front ++ s ∷ []) olds news a c x z (good && own)
      mended_more c z wrote printed own same = record {
        files = next_files;
        read = next_read;
        ends = next_ends ∙ sym (ends_of-push copies front s);
        mended = next_mended;
        outcomes = next_outcomes;
        wrote = subst (Writes a c) (sym next_bytes) (Writes-trans a b c _ _ so_far.wrote wrote);
        printed = subst (Writes x z) (sym next_text) (Writes-trans x y z _ _ so_far.printed printed);
        all = ap (λ (g : Bool). good && g) same ∙ ap (λ (g : Bool). g && is_good one.state) so_far.all
            ∙ ap (λ (g : Bool). list_all (λ (m : MendedValue). is_good m.state) so_far.mended && g) (sym (and-true (is_good one.state)))
            ∙ sym (list_all-append (λ (m : MendedValue). is_good m.state) so_far.mended (one ∷ []));
      }

    -- writing what becomes of it stopped
    pub writing_stops : (fault : MendFault) (c z : WriteLog) → MendsOne (1 + length front) (held_cells s.size s.places (rooms_at news)) s (Err fault) b c y z
        → StopsMending stretches olds (logs_at news) a c x z fault
    writing_stops faults.Out c z stop =
        subst (λ w. StopsMending stretches olds (logs_at news) a c x w faults.Out) (sym stop.3) (out_stops stop.0 stop.1 c stop.2)
    writing_stops faults.Output c z stop = output_stops stop.0 stop.1 c z stop.2 stop.3
    writing_stops faults.Memory c z stop =
        subst (λ w. StopsMending stretches olds (logs_at news) a w x z faults.Memory) (sym stop.0)
        (subst (λ w. StopsMending stretches olds (logs_at news) a b x w faults.Memory) (sym stop.1) front_stays)
    writing_stops (faults.Read copy) c z stop = absurd stop

-- ---- after the last

pub all_mended : (copies : ℕ) (stretches : List StretchValue) (olds : List ReadLog) (states : List CopyState) (a b x y : WriteLog) (good : Bool)
    → IsMended copies stretches olds states a b x y good → length states ≡ copies → MendsAll stretches olds (logs_at states) a b x y good
all_mended copies stretches olds states a b x y good done count =
    let are = ends_are_lengths olds states done.files done.read in
    let many : length done.files ≡ copies = as_many_files olds states done.files done.read ∙ count in
    let ends : ends_at states ≡ ends_of (length done.files) stretches = done.ends ∙ ap (λ n. ends_of n stretches) (sym many) in
    record {
      files = done.files;
      read = all_are_read olds states done.files done.read;
      mended = done.mended;
      mends = record {
        rest = [];
        split = sym (append-nil stretches);
        outcomes = done.outcomes;
        least = subst (λ es. AreBelow es done.files) ends (below_as (ends_at states) done.files are);
        most = subst (λ es. AllZip (λ end file. length file ≤ end) es done.files) ends (most_as (ends_at states) done.files are);
      };
      wrote = done.wrote;
      printed = done.printed;
      returned = done.all;
    }

-- ---- the first and the last of copies as they are held

module _ {S : Type 0} (log : S → ReadLog) where
  pub before_all : (copies : List (CopyReader S)) (out output : WriteLog) → All (λ copy. (state_of log copy).end ≡ 0) copies
      → IsMended (length copies) [] (map (λ copy. log copy.source) copies) (map (state_of log) copies) out out output output true
  before_all copies out output unread =
      subst (λ n. IsMended n [] (map (λ copy. log copy.source) copies) (map (state_of log) copies) out out output output true) (length-map copies (state_of log))
      (subst (λ logs. IsMended (length (map (state_of log) copies)) [] logs (map (state_of log) copies) out out output output true) (logs_of_states log copies)
      (mended_none (map (state_of log) copies) out output (unread_states log copies unread)))

  pub after_all : (stretches : List StretchValue) (i : ℕ) (initial copies : List (CopyReader S)) → length copies ≡ length initial → length stretches ≤ i
      → (a b x y : WriteLog) (good : Bool)
      → IsMended (length initial) (take i stretches) (map (λ copy. log copy.source) initial) (map (state_of log) copies) a b x y good
      → MendsAll stretches (map (λ copy. log copy.source) initial) (map (λ copy. log copy.source) copies) a b x y good
  after_all stretches i initial copies kept end a b x y good so_far =
      subst (λ logs. MendsAll stretches (map (λ copy. log copy.source) initial) logs a b x y good) (logs_of_states log copies)
      (all_mended (length initial) stretches (map (λ copy. log copy.source) initial) (map (state_of log) copies) a b x y good
      (subst (λ front. IsMended (length initial) front (map (λ copy. log copy.source) initial) (map (state_of log) copies) a b x y good) (take_all i stretches end) so_far)
      (length-map copies (state_of log) ∙ kept))

-- ---- one stretch more of copies as they are held

module _ {S : Type 0} (log : S → ReadLog) (stretches : List StretchValue) (i : ℕ) (s : StretchValue) (is : s ≡ get_or stretches i s) (lt : i < length stretches)
    (initial nows : List (CopyReader S)) (order : AreInOrder (length initial) (replicate (length initial) 0) stretches) (kept : length nows ≡ length initial)
    (a b x y : WriteLog) (good : Bool)
    (so_far : IsMended (length initial) (take i stretches) (map (λ copy. log copy.source) initial) (map (state_of log) nows) a b x y good) where
  abbrev olds : List ReadLog
  olds = map (λ copy. log copy.source) initial

  abbrev states : List CopyState
  states = map (state_of log) nows

  here : stretches ≡ take i stretches ++ s ∷ drop (suc i) stretches
  here = parted_at stretches i s lt ∙ ap (λ t. take i stretches ++ t ∷ drop (suc i) stretches) (sym is)

  count : length (map (state_of log) nows) ≡ length initial
  count = length-map nows (state_of log) ∙ kept

  number : i + 1 ≡ 1 + length (take i stretches)
  number = omega (arith, length-take-le i stretches (omega arith))

  pub stretch_here : IsStretchOf (length initial) s
  stretch_here = is_stretch (length initial) stretches (take i stretches) s (drop (suc i) stretches) here order olds states a b x y good so_far count

  pub follows_here : FollowsStretch (map (λ state. state.end) (map (state_of log) nows)) s
  follows_here = follows (length initial) stretches (take i stretches) s (drop (suc i) stretches) here order olds states a b x y good so_far count

  pub pass_stops : (T : Type 0) (news : List (CopyReader S)) (fault : MendFault)
      → ReadsEach {T = T} s.size s.places (Err fault) (map (state_of log) nows) (map (state_of log) news)
      → StopsMending stretches (map (λ copy. log copy.source) initial) (map (λ copy. log copy.source) news) a b x y fault
  pass_stops T news fault stop =
      subst (λ logs. StopsMending stretches (map (λ copy. log copy.source) initial) logs a b x y fault) (logs_of_states log news)
      (reading_stops (length initial) stretches (take i stretches) s (drop (suc i) stretches) here order olds states a b x y good so_far count
      T (map (state_of log) news) fault stop)

  -- the stretch was read of the copies
  module _ (news : List (CopyReader S)) (steps : List (CopyStep s.size)) (are : AreSteps s.size s.places (map (state_of log) nows) (map (state_of log) news) steps) where
    pub rooms_held : AllZip (HasRoom s.size) s.places (map (λ copy. copy.room.items) news)
    rooms_held =
        subst (AllZip (HasRoom s.size) s.places) (rooms_of_states log news)
        (held (length initial) stretches (take i stretches) s (drop (suc i) stretches) here order olds states a b x y good so_far count
        (map (state_of log) news) steps are)

    pub pass_stays : StopsMending stretches (map (λ copy. log copy.source) initial) (map (λ copy. log copy.source) news) a b x y faults.Memory
    pass_stays =
        subst (λ logs. StopsMending stretches olds logs a b x y faults.Memory) (logs_of_states log news)
        (front_stays (length initial) stretches (take i stretches) s (drop (suc i) stretches) here order olds states a b x y good so_far count
        (map (state_of log) news) steps are)

    -- and these are its cells
    module _ (cells : List (Option (List ℕ))) (cells_held : cells ≡ held_cells s.size s.places (map (λ copy. copy.room.items) news)) where
      by_state : cells ≡ held_cells s.size s.places (rooms_at (map (state_of log) news))
      by_state = cells_held ∙ ap (held_cells s.size s.places) (sym (rooms_of_states log news))

      pub from_held : HasVersion cells s.from
      from_held = subst (λ cells. HasVersion cells s.from) (sym by_state)
          (cells_from (length initial) stretches (take i stretches) s (drop (suc i) stretches) here order olds states a b x y good so_far count
          (map (state_of log) news) steps are)

      pub long_held : All (IsAsLong s.size) cells
      long_held = subst (All (IsAsLong s.size)) (sym by_state)
          (cells_long (length initial) stretches (take i stretches) s (drop (suc i) stretches) here order olds states a b x y good so_far count
          (map (state_of log) news) steps are)

      pub one_stopped : (fault : MendFault) (c z : WriteLog) → MendsOne (i + 1) cells s (Err fault) b c y z
          → StopsMending stretches (map (λ copy. log copy.source) initial) (map (λ copy. log copy.source) news) a c x z fault
      one_stopped fault c z stop =
          subst (λ logs. StopsMending stretches olds logs a c x z fault) (logs_of_states log news)
          (writing_stops (length initial) stretches (take i stretches) s (drop (suc i) stretches) here order olds states a b x y good so_far count
          (map (state_of log) news) steps are fault c z
          (subst (λ n. MendsOne n (held_cells s.size s.places (rooms_at (map (state_of log) news))) s (Err fault) b c y z) number
          (subst (λ cells. MendsOne (i + 1) cells s (Err fault) b c y z) by_state stop)))

      pub one_mended : (own : Bool) (c z : WriteLog) → MendsOne (i + 1) cells s (Ok own) b c y z
          → IsMended (length initial) (take (i + 1) stretches) (map (λ copy. log copy.source) initial) (map (state_of log) news) a c x z (good && own)
      one_mended own c z done =
          let all = subst (λ n. MendsOne n (held_cells s.size s.places (rooms_at (map (state_of log) news))) s (Ok own) b c y z) number
          (subst (λ cells. MendsOne (i + 1) cells s (Ok own) b c y z) by_state done) in
          subst (λ some. IsMended (length initial) some olds (map (state_of log) news) a c x z (good && own))
          (ap (λ t. take i stretches ++ t ∷ []) is ∙ sym (take_more stretches i s lt))
          (mended_more (length initial) stretches (take i stretches) s (drop (suc i) stretches) here order olds states a b x y good so_far count
          (map (state_of log) news) steps are all.0 all.1 c z all.2 all.3 own all.4)
