-- The lines of a setup, which `show` and `setup` print.
use Rattle.std.specs.Prelude.{ℕ, ◌*◌, ◌++◌, List, length, codes}
use Rattle.std.specs.List.{flat_map}
use Rattle.std.specs.Fmt.{decimal}
use Rattle.ffv1_range.specs.Setup.{SetupValue}

abbrev pub version_line : SetupValue → List ℕ
version_line setup = codes "version 3." ++ decimal setup.micro ++ codes "\n"

-- coder_type, colorspace_type, and the bits of a sample
abbrev pub coding_line : (coder colorspace depth : ℕ) → List ℕ
coding_line coder colorspace depth =
    codes "coder " ++ decimal coder ++ codes " colorspace " ++ decimal colorspace ++ codes " depth " ++ decimal depth ++ codes "\n"

-- the planes, and the logarithms of a chroma sample's width and height in luma samples
abbrev pub planes_line : (planes : ℕ) → SetupValue → List ℕ
planes_line planes setup =
    codes "planes " ++ decimal planes ++ codes " shift " ++ decimal setup.shift_h ++ codes " " ++ decimal setup.shift_v ++ codes "\n"

abbrev pub grid_line : SetupValue → List ℕ
grid_line setup =
    codes "grid " ++ decimal setup.across ++ codes "x" ++ decimal setup.down ++ codes " tiles " ++ decimal (setup.across * setup.down) ++ codes "\n"

-- the sets of tables, and how many contexts each has
abbrev pub contexts_word : ℕ → List ℕ
contexts_word contexts = codes " " ++ decimal contexts

abbrev pub tables_line : SetupValue → List ℕ
tables_line setup =
    codes "tables " ++ decimal (length setup.sets) ++ codes " contexts" ++ flat_map (λ set. contexts_word set.contexts) setup.sets ++ codes "\n"

abbrev pub ec_line : SetupValue → List ℕ
ec_line setup = codes "ec " ++ decimal setup.ec ++ codes " intra " ++ decimal setup.intra ++ codes "\n"

-- all of them, where samples are coded so, in so many planes
abbrev pub setup_lines : (coder colorspace depth planes : ℕ) → SetupValue → List ℕ
setup_lines coder colorspace depth planes setup =
    version_line setup ++ coding_line coder colorspace depth ++ planes_line planes setup ++ grid_line setup ++ tables_line setup ++ ec_line setup
