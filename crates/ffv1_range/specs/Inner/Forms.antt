-- What calls that read with a decoder return, in terms of forms.
use Rattle.std.specs.Prelude.{◌≡◌, Result, Ok, Err}
use Rattle.ffv1_range.specs.Coding.{Coder}
use Rattle.ffv1_range.specs.Decoder.{Reader, reader_at}
use Rattle.ffv1_range.specs.declared.coding.RangeFault.{RangeFault}
use Rattle.ffv1_range.specs.Forms.{Form, form_at}

-- `ReadsForm` through a view of what was returned
abbrev pub ReadsFormAs : {X Y A E : Type 0} → (RangeFault → E) → (Y → A) → Form X A E → Reader → X → Result Y E → Reader → X → Type 0
ReadsFormAs lift view form r states (Ok a) s after =
    (c : Coder) × (form_at lift form r states ≡ Ok (view a, record { coder = c; states = after })) × (s ≡ reader_at r (Ok c))
ReadsFormAs lift view form r states (Err e) s after = form_at lift form r states ≡ Err e

-- `ReadsForm` where what was read is put somewhere else than in what is returned, and seen there through a view
abbrev pub ReadsTo : {X Y A E : Type 0} → (RangeFault → E) → (Y → A) → Form X A E → Reader → X → Result (Unit {0}) E → Reader → X → Y → Type 0
ReadsTo lift view form r states (Ok done) s after put =
    (c : Coder) × (form_at lift form r states ≡ Ok (view put, record { coder = c; states = after })) × (s ≡ reader_at r (Ok c))
ReadsTo lift view form r states (Err e) s after put = form_at lift form r states ≡ Err e

-- What a function returned, seen by a view, is what reading gives.
abbrev pub Gives : {X Y E : Type 0} → (X → Y) → Result X E → Result Y E → Type 0
Gives view (Ok x) read = read ≡ Ok (view x)
Gives view (Err e) read = read ≡ Err e
