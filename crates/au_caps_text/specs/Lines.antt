-- The text of a report on capabilities, in lines.
use Rattle.std.specs.Prelude.{ℕ, List, [], ◌∷◌, ◌++◌, codes}
use Rattle.std.specs.List.{flat_map}
use Rattle.au_caps_text.specs.declared.reports.Report.{Report}
use Rattle.au_caps_text.specs.declared.reports.Row.{Row}

-- an entry, with a blank before it
abbrev pub entry_text : List ℕ → List ℕ
entry_text one = codes " " ++ one

-- a line: a word, and the entries of a list behind it
abbrev pub list_line : List ℕ → List (List ℕ) → List ℕ
list_line word list = word ++ (flat_map entry_text list ++ 10 ∷ [])

-- a function or method: its name alone, and then what it can make, hold and hand on
abbrev pub row_text : Row → List ℕ
row_text row =
    list_line row.function []
    ++ (list_line (codes "  makes") row.makes
    ++ (list_line (codes "  holds") row.holds ++ list_line (codes "  hands") row.hands))

-- a report
abbrev pub report_text : Report → List ℕ
report_text report = flat_map row_text report.rows
