-- Why a frame is refused, as its error frame says it: "one data byte: where 000's list of error codes names the same fault, that code, otherwise our
-- refusal number" (02, 2026-06).
use Rattle.std.specs.Prelude.{ℕ, cond, List, [], ◌∷◌, eqb}
use Rattle.laws.specs.Mixing.{those}

-- 000's list (3.2.3, figure 3.48), as far as it names a fault that is refused with an error frame: the code's name, and its definition there

-- "Illegal Service Parameters": "Requested Service Parameters does not exist in this object."
abbrev pub illegal_service_parameters : ℕ
illegal_service_parameters = 1

-- "Read Only Variable": "A write action was requested of a read-only variable."
abbrev pub read_only_variable : ℕ
read_only_variable = 2

-- "Illegal DLC": "DLC value does not match data byte count."
abbrev pub illegal_dlc : ℕ
illegal_dlc = 9

-- an entry: a refusal, and its code
abbrev pub Entry : Type 0
Entry = ℕ × ℕ

-- "The pairs are one table, and every refusal from 7 on has exactly one entry"
abbrev pub error_codes : List Entry
error_codes =
    -- the action or event does not exist in this object (code 0, "Service Not Available", is defined for services 0 to 3 alone)
    (7, illegal_service_parameters)
    -- a DLC that service and flag do not allow
    ∷ (8, illegal_dlc)
    -- the attribute does not exist in this object
    ∷ (9, illegal_service_parameters)
    -- a Read of what may only be written gets it too: one entry for each refusal
    ∷ (10, read_only_variable)
    -- a data length, or a total, that is not the attribute's
    ∷ (11, illegal_dlc)
    -- data bytes that are not those which number and total call for
    ∷ (12, illegal_dlc)
    -- our own number: 000 has no such fault (its own 14 is "Connection Previously Made")
    ∷ (14, 14)
    ∷ []

-- the entries of a refusal
abbrev pub entries_of : ℕ → List Entry → List Entry
entries_of n es = those (λ e. eqb n e.0) es

-- the code of the first entry of a refusal; 0 where it has none
abbrev pub code_in : List Entry → ℕ → ℕ
code_in [] n = 0
code_in (e ∷ es) n = cond (eqb n e.0) e.1 (code_in es n)

unfoldable pub code_of : ℕ → ℕ
code_of n = code_in error_codes n
