-- State transitions: what a state becomes after a bit (RFC 9043, sections 3.8.1.4 to 3.8.1.6).
use Rattle.std.specs.Prelude.{ℕ, suc, ℤ, pos, negsuc, ◌+◌, ◌-◌, ◌%◌, ◌≤◌, ◌==◌, Bool, List, [], ◌∷◌, map, replicate, slice_index, if◌then◌else◌}
use Rattle.std.specs.List.{range_with_len}
use Rattle.ffv1_range.specs.declared.transitions.Transitions.{Transitions}

-- the default table: what a state becomes after a bit 1, for the states 0 to 255
unfoldable pub default_states : List ℕ
default_states =
    0 ∷ 0 ∷ 0 ∷ 0 ∷ 0 ∷ 0 ∷ 0 ∷ 0 ∷ 20 ∷ 21 ∷ 22 ∷ 23 ∷ 24 ∷ 25 ∷ 26 ∷ 27 ∷
    28 ∷ 29 ∷ 30 ∷ 31 ∷ 32 ∷ 33 ∷ 34 ∷ 35 ∷ 36 ∷ 37 ∷ 37 ∷ 38 ∷ 39 ∷ 40 ∷ 41 ∷ 42 ∷
    43 ∷ 44 ∷ 45 ∷ 46 ∷ 47 ∷ 48 ∷ 49 ∷ 50 ∷ 51 ∷ 52 ∷ 53 ∷ 54 ∷ 55 ∷ 56 ∷ 56 ∷ 57 ∷
    58 ∷ 59 ∷ 60 ∷ 61 ∷ 62 ∷ 63 ∷ 64 ∷ 65 ∷ 66 ∷ 67 ∷ 68 ∷ 69 ∷ 70 ∷ 71 ∷ 72 ∷ 73 ∷
    74 ∷ 75 ∷ 75 ∷ 76 ∷ 77 ∷ 78 ∷ 79 ∷ 80 ∷ 81 ∷ 82 ∷ 83 ∷ 84 ∷ 85 ∷ 86 ∷ 87 ∷ 88 ∷
    89 ∷ 90 ∷ 91 ∷ 92 ∷ 93 ∷ 94 ∷ 94 ∷ 95 ∷ 96 ∷ 97 ∷ 98 ∷ 99 ∷ 100 ∷ 101 ∷ 102 ∷ 103 ∷
    104 ∷ 105 ∷ 106 ∷ 107 ∷ 108 ∷ 109 ∷ 110 ∷ 111 ∷ 112 ∷ 113 ∷ 114 ∷ 114 ∷ 115 ∷ 116 ∷ 117 ∷ 118 ∷
    119 ∷ 120 ∷ 121 ∷ 122 ∷ 123 ∷ 124 ∷ 125 ∷ 126 ∷ 127 ∷ 128 ∷ 129 ∷ 130 ∷ 131 ∷ 132 ∷ 133 ∷ 133 ∷
    134 ∷ 135 ∷ 136 ∷ 137 ∷ 138 ∷ 139 ∷ 140 ∷ 141 ∷ 142 ∷ 143 ∷ 144 ∷ 145 ∷ 146 ∷ 147 ∷ 148 ∷ 149 ∷
    150 ∷ 151 ∷ 152 ∷ 152 ∷ 153 ∷ 154 ∷ 155 ∷ 156 ∷ 157 ∷ 158 ∷ 159 ∷ 160 ∷ 161 ∷ 162 ∷ 163 ∷ 164 ∷
    165 ∷ 166 ∷ 167 ∷ 168 ∷ 169 ∷ 170 ∷ 171 ∷ 171 ∷ 172 ∷ 173 ∷ 174 ∷ 175 ∷ 176 ∷ 177 ∷ 178 ∷ 179 ∷
    180 ∷ 181 ∷ 182 ∷ 183 ∷ 184 ∷ 185 ∷ 186 ∷ 187 ∷ 188 ∷ 189 ∷ 190 ∷ 190 ∷ 191 ∷ 192 ∷ 194 ∷ 194 ∷
    195 ∷ 196 ∷ 197 ∷ 198 ∷ 199 ∷ 200 ∷ 201 ∷ 202 ∷ 202 ∷ 204 ∷ 205 ∷ 206 ∷ 207 ∷ 208 ∷ 209 ∷ 209 ∷
    210 ∷ 211 ∷ 212 ∷ 213 ∷ 215 ∷ 215 ∷ 216 ∷ 217 ∷ 218 ∷ 219 ∷ 220 ∷ 220 ∷ 222 ∷ 223 ∷ 224 ∷ 225 ∷
    226 ∷ 227 ∷ 227 ∷ 229 ∷ 229 ∷ 230 ∷ 231 ∷ 232 ∷ 234 ∷ 234 ∷ 235 ∷ 236 ∷ 237 ∷ 238 ∷ 239 ∷ 240 ∷
    241 ∷ 242 ∷ 243 ∷ 244 ∷ 245 ∷ 246 ∷ 247 ∷ 248 ∷ 248 ∷ 0 ∷ 0 ∷ 0 ∷ 0 ∷ 0 ∷ 0 ∷ 0 ∷
    []

-- a delta modulo 256
abbrev pub delta_byte : ℤ → ℕ
delta_byte (pos n) = n % 256
delta_byte (negsuc n) = (256 - suc n % 256) % 256

-- the deltas of a record modulo 256: those that are coded with coder_type 2, and else all 0
abbrev pub delta_bytes : ℕ → List ℤ → List ℕ
delta_bytes coder deltas = if coder == 2 then map delta_byte deltas else replicate 255 0

-- the states after a bit 1: those of the default table plus the deltas of the states 1 to 255, modulo 256; state 0 stays
abbrev pub one_state_with : List ℕ → ℕ → ℕ
one_state_with deltas state = if state == 0 then 0 else (slice_index default_states state + slice_index deltas (state - 1)) % 256

unfoldable pub one_states_with : List ℕ → List ℕ
one_states_with deltas = map (one_state_with deltas) (range_with_len 0 256)

-- the states after a bit 0: those after a bit 1, mirrored
abbrev pub zero_state_of : List ℕ → ℕ → ℕ
zero_state_of ones state = if state == 0 then 0 else (256 - slice_index ones (256 - state)) % 256

unfoldable pub zero_states_of : List ℕ → List ℕ
zero_states_of ones = map (zero_state_of ones) (range_with_len 0 256)

abbrev pub transitions_with : List ℕ → Transitions
transitions_with deltas = record { zero = zero_states_of (one_states_with deltas); one = one_states_with deltas }

-- the transitions where no deltas are coded
unfoldable pub standard_transitions : Transitions
standard_transitions = transitions_with (replicate 255 0)

-- the state after a bit
abbrev pub state_following : Transitions → ℕ → Bool → ℕ
state_following transitions state bit = slice_index (if bit then transitions.one else transitions.zero) state

-- the same by the default table
abbrev pub bit_state_after : ℕ → Bool → ℕ
bit_state_after state bit = state_following standard_transitions state bit

-- the states that are met from 128 on, by the default table
abbrev pub IsBitState : ℕ → Type 0
IsBitState state = (8 ≤ state) × (state ≤ 248)
