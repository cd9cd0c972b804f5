-- The values of private types.
use Rattle.std.specs.Prelude.{ℕ, List, map, take}
use Rattle.ffv1_range.specs.Coding.{Coder}
use Rattle.ffv1_range.specs.HeaderForms.{HeaderRead}
use Rattle.ffv1_range.specs.SetupForms.{FrontValue}
use Rattle.ffv1_range.specs.declared.fields.Front.{Front}
use Rattle.ffv1_range.specs.declared.head.HeaderFields.{HeaderFields}
use Rattle.ffv1_range.specs.declared.tables.TableSet.{TableSet}
use Rattle.ffv1_range.specs.Views.{shape_value, counts_of}

abbrev pub front_value : Front → FrontValue
front_value x = record { micro = x.micro; shape = shape_value x.shape; tiles = counts_of x.counts; sets = x.sets }

-- the number of contexts of each set
abbrev pub contexts_of : List TableSet → List ℕ
contexts_of sets = map (λ set. set.contexts) sets

-- the fields that were read, of those that there is room for
abbrev pub header_value : ℕ → HeaderFields → Coder → HeaderRead
header_value count x end = record { key = x.key; fields = take count x.fields; end = end }
