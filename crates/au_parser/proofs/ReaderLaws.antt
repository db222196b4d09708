-- The laws of the reader of files.
use Rattle.std.proofs.Common.{◌≡◌, ℕ, true, List, [], ◌⊎◌, Ok, Err}
use Rattle.au_base.specs.declared.limits.Limit.{Limit}
use Rattle.au_base.specs.declared.tokens.Token.{Token}
use Rattle.au_syntax.specs.Forms.{formed_module}
use Rattle.au_syntax.specs.Plain.{PlainModule}
use Rattle.au_syntax.specs.Words.{words, AreWords, Spells}
use Rattle.au_read_expressions.specs.Bounds.{Bounds, ModulePasses}
use Rattle.au_read_expressions.specs.declared.faults.Fault.TheVariants.{Passed}
use Rattle.au_parser.specs.ModuleReading.{file_at}
use Rattle.au_parser.proofs.FileForm as form
use Rattle.au_parser.proofs.FileLaws as laws
use Rattle.au_parser.proofs.FileForm.{ModuleFits}
use Rattle.au_parser.proofs.Lower.{lower}

pub file_sound : (b : Bounds) (ts rest : List Token) (m : PlainModule) → file_at b ts ≡ Ok (m, rest) →
    (rest ≡ []) × AreWords (words m) ts × (formed_module m ≡ true) × ModuleFits b m
file_sound b = form.file_sound b (lower b)

pub file_found : (b : Bounds) (ts : List Token) (m : PlainModule) → AreWords (words m) ts → formed_module m ≡ true
    → (file_at b ts ≡ Ok (m, [])) ⊎ ((l : Limit) × (left : ℕ) × (file_at b ts ≡ Err (Passed l left))
    × ModulePasses b m l)
file_found b = form.file_found b (lower b)

pub one_tree : (m u : PlainModule) → formed_module m ≡ true → formed_module u ≡ true → (ts : List Token) →
    Spells m ts → Spells u ts → m ≡ u
one_tree = laws.one_tree file_sound file_found
