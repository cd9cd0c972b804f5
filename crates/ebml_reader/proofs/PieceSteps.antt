-- Bytes that are passed, piece by piece.
use Rattle.std.proofs.Common.{◌≡◌, ℕ, ◌+◌, ◌-◌, List, [], ◌++◌, length, take, drop, sym, ap, ◌∙◌, subst, arith, inl, inr, append_assoc, append-nil, length-append}
use Rattle.std.proofs.lemmas.List.{length-take-le}
use Rattle.ffv1_devices.specs.Logs.{ReadLog}
use Rattle.ebml_reader.specs.Reader.{Held}
use Rattle.ebml_reader.specs.Intake.{Passes}
use Rattle.ebml_reader.specs.RunningCrc.{CrcSoFar, RunsOver}
use Rattle.ebml_reader.specs.Pieces.{PassesUpTo, GoesOver}
use Rattle.ebml_reader.specs.Inner.Piece.{HasPiece}
use Rattle.ebml_reader.proofs.Steps.{passes-nil, passes-trans, passes-fill, passes-pass}

-- These bytes were passed, and so many are left to be.
pub record PassedThese (bytes : List ℕ) (count left : ℕ) (old now : Held) (x y : ReadLog) : Type 0 where
  pub counted : length bytes + left ≡ count
  pub passes : Passes bytes old now x y

pub none_passed : (count : ℕ) (held : Held) (log : ReadLog) → PassedThese [] count count held held log log
none_passed count held log = record { counted = omega arith; passes = passes-nil held log }

pub piece_passed : (bytes : List ℕ) (count left n : ℕ) (old now mid new : Held) (x y z : ReadLog) → PassedThese bytes count left old now x y → HasPiece left n now mid y z
    → new ≡ record { bytes = drop n mid.bytes; taken = mid.taken; ended = mid.ended } → PassedThese (bytes ++ take n mid.bytes) count (left - n) old new x z
piece_passed bytes count left n old now mid new x y z so_far piece new_is =
    let few = piece.few in
    let counted = so_far.counted in
    record {
      counted = omega (arith, few, counted, length-append bytes (take n mid.bytes), length-take-le n mid.bytes piece.there);
      passes = subst (λ h. Passes (bytes ++ take n mid.bytes) old h x z) (sym new_is)
          (passes-trans bytes (take n mid.bytes) old mid _ x z z (passes-fill bytes old now mid x y z so_far.passes piece.passes) (passes-pass n mid z));
    }

pub all_passed : (bytes : List ℕ) (count left n : ℕ) (old now new : Held) (x y z : ReadLog) → PassedThese bytes count left old now x y → HasPiece left n now new y z
    → n ≡ 0 → (count - left ≡ length bytes) × PassesUpTo count bytes old new x z
all_passed bytes count left n old now new x y z so_far piece none =
    let counted = so_far.counted in (
      omega (arith, counted),
      record {
        most = omega (arith, counted);
        passes = passes-fill bytes old now new x y z so_far.passes piece.passes;
        bounded = piece.bounded;
        all = elim (piece.none none) [ inl nothing ↦ inl (omega (arith, nothing, counted)) | inr end ↦ inr end ];
      },
    )

abbrev pub PassedSoFar : (count left : ℕ) → Held → Held → ReadLog → ReadLog → Type 0
PassedSoFar count left old now x y = (bytes : List ℕ) × PassedThese bytes count left old now x y

-- ---- with the CRC-32 of a content

pub record SummedSoFar (count left : ℕ) (crc later : CrcSoFar) (old now : Held) (x y : ReadLog) : Type 0 where
  pub bytes : List ℕ
  pub passed : PassedThese bytes count left old now x y
  pub over : GoesOver bytes crc later

pub over_none : (crc : CrcSoFar) → GoesOver [] crc crc
over_none crc content runs = subst (λ l. RunsOver l crc) (sym (append-nil content)) runs

pub over_more : (xs ys : List ℕ) (a b c : CrcSoFar) → GoesOver xs a b → GoesOver ys b c → GoesOver (xs ++ ys) a c
over_more xs ys a b c first second content runs = subst (λ l. RunsOver l c) (append_assoc content xs ys) (second (content ++ xs) (first content runs))

pub none_summed : (count : ℕ) (crc : CrcSoFar) (held : Held) (log : ReadLog) → SummedSoFar count count crc crc held held log log
none_summed count crc held log = record { bytes = []; passed = none_passed count held log; over = over_none crc }

pub piece_summed : (count left n : ℕ) (crc later last : CrcSoFar) (old now mid new : Held) (x y z : ReadLog) (bytes : List ℕ) → SummedSoFar count left crc later old now x y
    → HasPiece left n now mid y z → bytes ≡ mid.bytes → GoesOver (take n bytes) later last
    → new ≡ record { bytes = drop n mid.bytes; taken = mid.taken; ended = mid.ended } → SummedSoFar count (left - n) crc last old new x z
piece_summed count left n crc later last old now mid new x y z bytes so_far piece same over new_is = record {
  bytes = so_far.bytes ++ take n mid.bytes;
  passed = piece_passed so_far.bytes count left n old now mid new x y z so_far.passed piece new_is;
  over = over_more so_far.bytes (take n mid.bytes) crc later last so_far.over (subst (λ l. GoesOver (take n l) later last) same over);
}

-- ---- with the bytes taken

pub taken_passed : (bytes piece : List ℕ) (count left n : ℕ) (old now mid new : Held) (x y z : ReadLog) (taken : List ℕ) → PassedThese bytes count left old now x y
    → HasPiece left n now mid y z → piece ≡ mid.bytes → taken ≡ bytes ++ take n piece
    → new ≡ record { bytes = drop n mid.bytes; taken = mid.taken; ended = mid.ended } → PassedThese taken count (left - n) old new x z
taken_passed bytes piece count left n old now mid new x y z taken so_far has same taken_is new_is =
    subst (λ l. PassedThese l count (left - n) old new x z) (sym (taken_is ∙ ap (λ l. bytes ++ take n l) same))
    (piece_passed bytes count left n old now mid new x y z so_far has new_is)
