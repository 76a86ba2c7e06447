-- The line that a refused document or stream is answered with.
use Rattle.std.specs.Prelude.{ℕ, pos, List, ◌++◌, codes}
use Rattle.document_reading.specs.declared.refusal.Code.{Code}
use Rattle.document_reading.specs.declared.refusal.Code.TheVariants.{E01, E02, E03, E04, E05, E06, E07, E08, E09, E10, E11, E12, E13, E14, E15, E16, E17, E18, E19, E20, E21}
use Rattle.document_reading.specs.declared.refusal.Refusal.{Refusal}
use Rattle.svc_value.specs.Printed.{printed_value}
use Rattle.svc_value.specs.declared.value.Value.TheVariants.{Int}

-- the name of a code
abbrev pub code_text : Code → List ℕ
code_text E01 = codes "E01"
code_text E02 = codes "E02"
code_text E03 = codes "E03"
code_text E04 = codes "E04"
code_text E05 = codes "E05"
code_text E06 = codes "E06"
code_text E07 = codes "E07"
code_text E08 = codes "E08"
code_text E09 = codes "E09"
code_text E10 = codes "E10"
code_text E11 = codes "E11"
code_text E12 = codes "E12"
code_text E13 = codes "E13"
code_text E14 = codes "E14"
code_text E15 = codes "E15"
code_text E16 = codes "E16"
code_text E17 = codes "E17"
code_text E18 = codes "E18"
code_text E19 = codes "E19"
code_text E20 = codes "E20"
code_text E21 = codes "E21"

-- `refused`, the line and the code
abbrev pub refusal_line : Refusal → List ℕ
refusal_line refusal = codes "refused " ++ printed_value (Int (pos refusal.line)) ++ codes " " ++ code_text refusal.code ++ codes "\n"
