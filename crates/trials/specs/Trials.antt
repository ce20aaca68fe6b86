-- Lists of calls to try demand 3 on, by trials/Trials: long_told, long_not_yet, long_woken, within_126_fails, mixed_places, mixed_lanes, and, for a search from lane 0, from_zero_fails.
use Rattle.std.specs.Prelude.{Option, ℕ, zero, suc, ◌+◌, List, [], ◌∷◌, ◌++◌, replicate}
use Rattle.waitlist.specs.NextLane.{first_raised}
use Rattle.trace.specs.Trace.{CallBytes}

abbrev pub call : ℕ → List ℕ → CallBytes
call kind body = record { kind = kind; body = body }

abbrev pub opening : ℕ → CallBytes
opening lanes = call 0x01 (lanes ∷ 0 ∷ 0 ∷ 0 ∷ 64 ∷ [])

abbrev pub wanting : ℕ → ℕ → CallBytes
wanting lane purpose = call 0x02 (lane ∷ purpose ∷ [])

abbrev pub receiving : ℕ → CallBytes
receiving lane = call 0x03 (lane ∷ [])

abbrev pub taking : ℕ → ℕ → CallBytes
taking lane count = call 0x04 (lane ∷ 0 ∷ count ∷ [])

abbrev pub freeing : ℕ → CallBytes
freeing lane = call 0x09 (lane ∷ [])

abbrev pub entering : ℕ → ℕ → CallBytes
entering lane count = call 0x0A (lane ∷ 0 ∷ count ∷ [])

abbrev pub book64 : List ℕ
book64 = replicate 64 255

-- ---- the longest wait: lane 0 holds, the others want in rising number, and the last one is told to wait
unfoldable pub wants_from : ℕ → ℕ → List CallBytes
wants_from lane zero = []
wants_from lane (suc more) = wanting lane 0 ∷ wants_from (lane + 1) more

unfoldable pub passes_from : ℕ → ℕ → List CallBytes
passes_from lane zero = []
passes_from lane (suc more) = receiving lane ∷ taking lane 0 ∷ passes_from (lane + 1) more

-- the calls before the last lane wants, and with its want
abbrev pub long_before : ℕ → List CallBytes
long_before last = opening (last + 1) ∷ wants_from 0 last

abbrev pub long_early : ℕ → List CallBytes
long_early last = long_before last ++ wanting last 0 ∷ []

-- so many releases: by lane 0, and then by each lane that is woken
abbrev pub long_later : ℕ → List CallBytes
long_later zero = []
long_later (suc more) = taking 0 0 ∷ passes_from 1 more

-- ---- whole-book, shared and ordered work mixed, on three lanes: lane 0 holds the whole book, 1 waits to write, 2 waits to read
abbrev pub mixed : List CallBytes
mixed =
    wanting 0 2
    ∷ wanting 1 0
    ∷ wanting 2 1
    ∷ taking 0 1
    ∷ freeing 0
    ∷ receiving 1
    ∷ taking 1 2
    ∷ receiving 2
    ∷ taking 2 1
    ∷ call 0x05 (1 ∷ replicate 8 7)
    ∷ call 0x06 (2 ∷ [])
    ∷ call 0x05 (1 ∷ replicate 8 7)
    ∷ call 0xFF []
    ∷ entering 0 1
    ∷ entering 2 2
    ∷ entering 1 0
    ∷ []

-- ---- a search from lane 0 at each release: lanes 0 and 1 take turns, and lane 2 is never woken
abbrev pub from_zero : ℕ → List ℕ → ℕ → Option ℕ
from_zero lanes flags releaser = first_raised flags 0 lanes

abbrev pub zero_early : List CallBytes
zero_early = opening 3 ∷ wanting 0 0 ∷ wanting 1 0 ∷ []

abbrev pub zero_later : List CallBytes
zero_later = taking 0 0 ∷ wanting 0 0 ∷ receiving 1 ∷ taking 1 0 ∷ wanting 1 0 ∷ receiving 0 ∷ taking 0 0 ∷ []
