-- How the keyframe bit and the fields of a slice are read.
use Rattle.std.specs.Prelude.{◌≡◌, ℕ, Bool, Option, Result, Ok, Err}
use Rattle.ffv1_range.specs.Coding.{Coder}
use Rattle.ffv1_range.specs.Decoder.{Reader, reader_at}
use Rattle.ffv1_range.specs.Forms.{from_place}
use Rattle.ffv1_range.specs.HeaderForms.{key_coder, header_from}
use Rattle.ffv1_range.specs.Inner.Views.{header_value}
use Rattle.ffv1_range.specs.declared.head.HeadFault.{HeadFault}
use Rattle.ffv1_range.specs.declared.head.HeadFault.TheVariants.{Range}
use Rattle.ffv1_range.specs.declared.head.HeaderFields.{HeaderFields}
use Rattle.ffv1_range.specs.declared.scope.Scope.{Scope}

-- A call read the keyframe bit where there has to be one: the decoder is after it.
abbrev pub ReadsKey : Scope → Bool → Reader → Result (Option Bool) HeadFault → Reader → Type 0
ReadsKey scope first r (Ok key) s = (c : Coder) × (from_place Range r.at (key_coder scope first r.mode) ≡ Ok (key, c)) × (s ≡ reader_at r (Ok c))
ReadsKey scope first r (Err e) s = from_place Range r.at (key_coder scope first r.mode) ≡ Err e

-- A call read the keyframe bit and so many fields.
abbrev pub ReadsHeader : Scope → ℕ → Bool → Reader → Result HeaderFields HeadFault → Reader → Type 0
ReadsHeader scope count first r (Ok header) s =
    (c : Coder) × (from_place Range r.at (header_from scope r.mode count first) ≡ Ok (header_value count header c)) × (s ≡ reader_at r (Ok c))
ReadsHeader scope count first r (Err e) s = from_place Range r.at (header_from scope r.mode count first) ≡ Err e

-- The decoder is at a place, and not at a fault.
abbrev pub IsAtPlace : Reader → Type 0
IsAtPlace r = (c : Coder) × (r.at ≡ Ok c)
