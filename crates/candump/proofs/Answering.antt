-- One answer of the code stands for what is imported, exported or put: its error is read back from the number.
use Prim.Native.Nat.{ℕ}
use mathlib.Core.Path.{◌≡◌, refl, sym, ap, ◌∙◌}
use mathlib.Core.Bool.{cond}
use mathlib.Core.List.{List}
use native.Mathlib.Omega.{arith}
use lib.Dec.{eqb}
use Rattle.std.specs.Prelude.{Result, Ok, Err}
use Rattle.candump.specs.declared.errors.ImportError.{ImportError}
use Rattle.candump.specs.declared.errors.ImportError.TheVariants.{TooLong, Front, Identifier, Data}
use Rattle.candump.specs.declared.errors.ExportError.{ExportError}
use Rattle.candump.specs.declared.errors.ExportError.TheVariants.{NotTen, Dlc, Room}
use Rattle.candump.specs.declared.exporting.Line.{Line}
use Rattle.candump.specs.Importing.{Imported}
use Rattle.candump.specs.Exporting.{Exported, Put}
use Rattle.candump.specs.Refusals.{import_error_number, import_answer, export_answer, put_answer}

abbrev import_back : Imported → Result (List ℕ) ImportError
import_back i =
    cond (eqb i.number 0) (Ok i.frame) (Err (cond (eqb i.number 1) TooLong (cond (eqb i.number 2) Front (cond (eqb i.number 3) Identifier Data))))

import_kept : (r : Result (List ℕ) ImportError) → import_back (import_answer r) ≡ r
import_kept (Ok frame) = refl
import_kept (Err TooLong) = refl
import_kept (Err Front) = refl
import_kept (Err Identifier) = refl
import_kept (Err Data) = refl

pub import_answer_one : (r r' : Result (List ℕ) ImportError) → import_answer r ≡ import_answer r' → r ≡ r'
import_answer_one r r' e = sym (import_kept r) ∙ ap import_back e ∙ import_kept r'

abbrev export_error : ℕ → ExportError
export_error n = cond (eqb n 1) NotTen (cond (eqb n 2) Dlc Room)

abbrev export_back : Exported → Result Line ExportError
export_back x = cond (eqb x.number 0) (Ok (record { len = x.len; bytes = x.line })) (Err (export_error x.number))

export_kept : (r : Result Line ExportError) → export_back (export_answer r) ≡ r
export_kept (Ok line) = refl
export_kept (Err NotTen) = refl
export_kept (Err Dlc) = refl
export_kept (Err Room) = refl

pub export_answer_one : (r r' : Result Line ExportError) → export_answer r ≡ export_answer r' → r ≡ r'
export_answer_one r r' e = sym (export_kept r) ∙ ap export_back e ∙ export_kept r'

abbrev put_back : Put → Result ℕ ExportError
put_back x = cond (eqb x.number 0) (Ok x.len) (Err (export_error x.number))

put_kept : (r : Result ℕ ExportError) → put_back (put_answer r) ≡ r
put_kept (Ok n) = refl
put_kept (Err NotTen) = refl
put_kept (Err Dlc) = refl
put_kept (Err Room) = refl

pub put_answer_one : (r r' : Result ℕ ExportError) → put_answer r ≡ put_answer r' → r ≡ r'
put_answer_one r r' e = sym (put_kept r) ∙ ap put_back e ∙ put_kept r'

-- and no refusal has the number 0
pub import_refusal_counts : (e : ImportError) → import_error_number e ≡ 0 → ⊥
import_refusal_counts TooLong h = absurd (omega (arith, h))
import_refusal_counts Front h = absurd (omega (arith, h))
import_refusal_counts Identifier h = absurd (omega (arith, h))
import_refusal_counts Data h = absurd (omega (arith, h))
