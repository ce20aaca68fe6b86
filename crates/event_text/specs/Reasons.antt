-- The reasons for refusing in few words, by their numbers. In document 01 they are sentences ("Reasons for refusing"): the contract of event_text::put_reason.
use Rattle.std.specs.Prelude.{ℕ, List, [], ◌∷◌, get_or}
use Rattle.printout.specs.Text.{ascii}

-- the numbers are 1 to this one; that each has its text: event_text/Reasons: reasons_counted
abbrev pub last_reason : ℕ
last_reason = 17

-- from number 1 on
abbrev pub reason_texts : List (List ℕ)
reason_texts =
    ascii "line not sound"
    ∷ ascii "kind not listed"
    ∷ ascii "body cut short"
    ∷ ascii "line not open"
    ∷ ascii "line already open"
    ∷ ascii "lanes out of range"
    ∷ ascii "capacity out of range"
    ∷ ascii "no such lane"
    ∷ ascii "purpose or whence above 2"
    ∷ ascii "view breaks a rule"
    ∷ ascii "a lane is not idle"
    ∷ ascii "a lane is gathered"
    ∷ ascii "wrong phase or purpose"
    ∷ ascii "no wake yet"
    ∷ ascii "pointer out of range"
    ∷ ascii "records do not fit"
    ∷ ascii "report or sheet too large"
    ∷ []

-- of a number that is no reason's nothing
abbrev pub reason_text : ℕ → List ℕ
reason_text k = get_or ([] ∷ reason_texts) k []
