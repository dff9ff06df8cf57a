-- The refusals by name, 02's numbers of them, and the rules in words. What the code answers is what the definitions say, by these numbers.
use Rattle.std.specs.Prelude.{ℕ, List, Result, Ok, Err, codes}
use Rattle.candump.specs.declared.errors.ImportError.{ImportError}
use Rattle.candump.specs.declared.errors.ImportError.TheVariants.{TooLong, Front, Identifier, Data}
use Rattle.candump.specs.declared.errors.ExportError.{ExportError}
use Rattle.candump.specs.declared.errors.ExportError.TheVariants.{NotTen, Dlc, Room}
use Rattle.candump.specs.declared.exporting.Line.{Line}
use Rattle.candump.specs.Importing.{Imported, not_imported, imported}
use Rattle.candump.specs.Exporting.{Exported, not_exported, Put}

abbrev pub import_error_number : ImportError → ℕ
import_error_number TooLong = 1
import_error_number Front = 2
import_error_number Identifier = 3
import_error_number Data = 4

abbrev pub export_error_number : ExportError → ℕ
export_error_number NotTen = 1
export_error_number Dlc = 2
export_error_number Room = 3

abbrev pub import_rule : ImportError → List ℕ
import_rule TooLong = codes "it is over 128 bytes long"
import_rule Front = codes "it does not begin with (seconds.micros) and an interface of 1 to 15 bytes"
import_rule Identifier = codes "behind the interface there are not three hex digits up to 7FF and a #"
import_rule Data = codes "behind the # there are neither up to 8 whole bytes nor R with at most a digit up to 8"

abbrev pub export_rule : ExportError → List ℕ
export_rule NotTen = codes "it is not ten bytes long"
export_rule Dlc = codes "its DLC is over 8"
export_rule Room = codes "there is no room for the longest line"

-- a record, or why there is none
abbrev pub import_answer : Result (List ℕ) ImportError → Imported
import_answer (Ok frame) = imported 0 frame
import_answer (Err e) = not_imported (import_error_number e)

-- a line, or why there is none
abbrev pub export_answer : Result Line ExportError → Exported
export_answer (Ok line) = record { number = 0; len = line.len; line = line.bytes }
export_answer (Err e) = not_exported (export_error_number e)

-- and of a line in a buffer, its length
abbrev pub put_answer : Result ℕ ExportError → Put
put_answer (Ok len) = record { number = 0; len = len }
put_answer (Err e) = record { number = export_error_number e; len = 0 }
