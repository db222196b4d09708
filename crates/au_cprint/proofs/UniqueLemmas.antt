-- One code a text: two codes that their texts tell are one where their texts are.
use Rattle.std.proofs.Common.{◌≡◌, ℕ, suc, ◌+◌, ◌<◌, ◌≤◌, ◌^◌, ◌/◌, ◌%◌, ◌*◌, ◌==◌, ◌&&◌, Bool, true, false, cond, List, []}
use Rattle.std.proofs.Common.{◌∷◌, ◌++◌, length, map, drop, get_or, refl, sym, ap, subst, ◌∙◌, arith, decimal}
use Rattle.std.proofs.Common.{append_assoc, true≢false}
use Rattle.std.specs.Prelude.{codes}
use Rattle.std.specs.Fmt.{digits}
use Rattle.std.specs.List.{flat_map, AllByRecursion}
use Rattle.std.proofs.lemmas.List.{append_cancel_left, map-id}
use Rattle.au_low.specs.declared.code.Code.{Code}
use Rattle.au_low.specs.declared.code.Function.{Function}
use Rattle.au_low.specs.declared.code.LowType.{LowType}
use Rattle.au_low.specs.declared.instructions.Instr.{Instr}
use Rattle.au_low.specs.declared.instructions.Instr.TheVariants as instr
use Rattle.au_shipped.specs.declared.prims.ShippedCall.{ShippedCall}
use Rattle.au_cprint.specs.Words.{Operand, plain, number, name, label_text, quoted, flag, applied}
use Rattle.au_cprint.specs.Instructions.{application, instruction_text, instruction_line}
use Rattle.au_cprint.specs.Programs.{numbered, line, octal, text_line, type_line, declare_line, function_text}
use Rattle.au_cprint.specs.Programs.{entry_line, lines_of, c_text, prelude}
use Rattle.au_cprint.specs.Told.{IsUnquoted, IsTold, IsShort, IsToldInstruction, IsToldText, IsToldType}
use Rattle.au_cprint.specs.Told.{IsToldFunction, IsToldCode}
use Rattle.au_cprint.proofs.RunLemmas.{same_first, same_rest, same_both, IsInner, IsOperand, run, within}
use Rattle.au_cprint.proofs.RunLemmas.{AreOperands, texts_of, number_operand, told_operand, IsWordOperand}
use Rattle.au_cprint.proofs.RunLemmas.{applied_alike, line_alike}
use Rattle.au_cprint.proofs.TellingLemmas.{same_instruction, value_is, value_in, flag_is, flag_in, name_is}
use Rattle.au_cprint.proofs.TellingLemmas.{name_in, three}
use Rattle.au_cprint.proofs.WordLemmas.{word_inner, are_words}

-- ---- lists of lines

-- Lists of which each item begins as no text behind them does, and which are told item by item, are alike where
-- what is written of them is.
module _ {A : Type 0} (text : ℕ → A → List ℕ) (Told : A → Type 0) (begins : List ℕ → Bool)
    (starts : (n : ℕ) (x : A) (u : List ℕ) → begins (text n x ++ u) ≡ true)
    (alike : (n : ℕ) (x y : A) (u v : List ℕ) → Told x → Told y → text n x ++ u ≡ text n y ++ v
    → (x ≡ y) × (u ≡ v)) where
  pub numbered_alike : (n : ℕ) (xs ys : List A) (u v : List ℕ) → AllByRecursion Told xs → AllByRecursion Told ys
      → begins u ≡ false → begins v ≡ false → numbered text n xs ++ u ≡ numbered text n ys ++ v
      → (xs ≡ ys) × (u ≡ v)
  numbered_alike n [] [] u v p q a b h = (refl, h)
  numbered_alike n [] (y ∷ ys) u v p q a b h =
      absurd (true≢false (sym (starts n y (numbered text (n + 1) ys ++ v))
      ∙ ap begins (sym (append_assoc (text n y) (numbered text (n + 1) ys) v) ∙ sym h) ∙ a))
  numbered_alike n (x ∷ xs) [] u v p q a b h =
      absurd (true≢false (sym (starts n x (numbered text (n + 1) xs ++ u))
      ∙ ap begins (sym (append_assoc (text n x) (numbered text (n + 1) xs) u) ∙ h) ∙ b))
  numbered_alike n (x ∷ xs) (y ∷ ys) u v p q a b h =
      let one = alike n x y (numbered text (n + 1) xs ++ u) (numbered text (n + 1) ys ++ v) p.0 q.0
      (sym (append_assoc (text n x) (numbered text (n + 1) xs) u) ∙ h
      ∙ append_assoc (text n y) (numbered text (n + 1) ys) v) in
      let more = numbered_alike (n + 1) xs ys u v p.1 q.1 a b one.1 in
      (ap (λ z. z ∷ xs) one.0 ∙ ap (λ zs. y ∷ zs) more.0, more.1)

-- ---- lines

-- what a line is, with what follows
line_apart : (w : List ℕ) (os : List Operand) (u : List ℕ) → line w os ++ u ≡ applied w os ++ 10 ∷ u
line_apart w os u = append_assoc (applied w os) (10 ∷ []) u

-- lines of one word and one first operand
lines_alike : (w : List ℕ) (o : Operand) (os ps : List Operand) (u v : List ℕ) → AreOperands os → AreOperands ps
    → line w (o ∷ os) ++ u ≡ line w (o ∷ ps) ++ v → (texts_of os ≡ texts_of ps) × (u ≡ v)
lines_alike w o os ps u v a b h =
    let both = line_alike w o os ps (10 ∷ u) (10 ∷ v) a b
    (sym (line_apart w (o ∷ os) u) ∙ h ∙ line_apart w (o ∷ ps) v) in
    (both.0, same_rest both.1)

-- the first of some texts, the second and the third
first_text : List (List ℕ) → List ℕ
first_text ts = get_or ts 0 []

second_text : List (List ℕ) → List ℕ
second_text ts = get_or ts 1 []

-- ---- texts

octal_parts : (b : ℕ) → b ≡ 64 * (b / 64) + (8 * (b / 8 % 8) + b % 8)
octal_parts b = omega arith

octals_unquoted : (bytes : List ℕ) → IsUnquoted (flat_map octal bytes)
octals_unquoted [] = tt
octals_unquoted (b ∷ bytes) = (
  λ e. omega (arith, e),
  (
    λ e. omega (arith, e),
    (
      λ e. omega (arith, e),
      (
        λ e. omega (arith, e),
        octals_unquoted bytes,
      ),
    ),
  ),
)

same_octal : (a b : ℕ) → a / 64 ≡ b / 64 → a / 8 % 8 ≡ b / 8 % 8 → a % 8 ≡ b % 8 → a ≡ b
same_octal a b e f g =
    octal_parts a
    ∙ ap (λ x. 64 * x + (8 * (a / 8 % 8) + a % 8)) e
    ∙ ap (λ x. 64 * (b / 64) + (8 * x + a % 8)) f
    ∙ ap (λ x. 64 * (b / 64) + (8 * (b / 8 % 8) + x)) g
    ∙ sym (octal_parts b)

same_octals : (xs ys : List ℕ) → flat_map octal xs ≡ flat_map octal ys → xs ≡ ys
same_octals [] [] h = refl
same_octals [] (y ∷ ys) h = absurd (omega (arith, ap length h))
same_octals (x ∷ xs) [] h = absurd (omega (arith, ap length h))
same_octals (x ∷ xs) (y ∷ ys) h =
    let one = same_rest h in
    let two = same_rest one in
    let three = same_rest two in
    same_both
    (same_octal x y (omega (arith, same_first one)) (omega (arith, same_first two)) (omega (arith, same_first three)))
    (same_octals xs ys (same_rest three))

text_operands : (bytes : List ℕ) → IsToldText bytes
    → AreOperands (number (length bytes) ∷ name (flat_map octal bytes) ∷ [])
text_operands bytes h =
    (number_operand (length bytes) h, (within (flat_map octal bytes) refl (octals_unquoted bytes), tt))

texts_alike : (n : ℕ) (x y u v : List ℕ) → IsToldText x → IsToldText y
    → text_line n x ++ u ≡ text_line n y ++ v → (x ≡ y) × (u ≡ v)
unfolding second_text
texts_alike n x y u v a b h =
    let both = lines_alike (codes "TEXT") (number n) (number (length x) ∷ name (flat_map octal x) ∷ [])
    (number (length y) ∷ name (flat_map octal y) ∷ []) u v (text_operands x a) (text_operands y b) h in (
      same_octals x y
          (sym (name_is (flat_map octal x)) ∙ ap (λ ts. name_in (second_text ts)) both.0 ∙ name_is (flat_map octal y)),
      both.1,
    )

-- ---- types

flag_operand : (b : Bool) → IsOperand (flag b)
flag_operand true = run 49 [] refl (omega arith) tt
flag_operand false = run 48 [] refl (omega arith) tt

type_operands : (t : LowType) → IsToldType t
    → AreOperands (name t.text ∷ name t.«module» ∷ plain (flag t.linear) ∷ [])
type_operands t h = (within t.text refl h.0, (within t.«module» refl h.1, (flag_operand t.linear, tt)))

abbrev type_of : List ℕ → List ℕ → Bool → LowType
type_of text home linear = record { text = text; «module» = home; linear = linear }

same_type : (x y : LowType) → x.text ≡ y.text → x.«module» ≡ y.«module» → x.linear ≡ y.linear → x ≡ y
same_type x y e f g = three type_of e f g

types_alike : (n : ℕ) (x y : LowType) (u v : List ℕ) → IsToldType x → IsToldType y
    → type_line n x ++ u ≡ type_line n y ++ v → (x ≡ y) × (u ≡ v)
unfolding first_text second_text
types_alike n x y u v a b h =
    let both = lines_alike (codes "TYPE") (number n) (name x.text ∷ name x.«module» ∷ plain (flag x.linear) ∷ [])
    (name y.text ∷ name y.«module» ∷ plain (flag y.linear) ∷ []) u v (type_operands x a) (type_operands y b) h in (
      same_type x y
          (sym (name_is x.text) ∙ ap (λ ts. name_in (first_text ts)) both.0 ∙ name_is y.text)
          (sym (name_is x.«module») ∙ ap (λ ts. name_in (second_text ts)) both.0 ∙ name_is y.«module»)
          (sym (flag_is x.linear) ∙ ap (λ ts. flag_in (get_or ts 2 [])) both.0 ∙ flag_is y.linear),
      both.1,
    )

-- ---- instructions

told_operands : (os : List Operand) → AllByRecursion IsTold os → AllByRecursion IsWordOperand os → AreOperands os
told_operands [] a b = tt
told_operands (o ∷ os) a b = (told_operand o a.0 b.0, told_operands os a.1 b.1)

instructions_alike : (n : ℕ) (i j : Instr) (u v : List ℕ) → IsToldInstruction i → IsToldInstruction j
    → instruction_line n i ++ u ≡ instruction_line n j ++ v → (i ≡ j) × (u ≡ v)
instructions_alike n i j u v a b h =
    let inner : instruction_text i ++ 59 ∷ 10 ∷ u ≡ instruction_text j ++ 59 ∷ 10 ∷ v =
    same_rest (same_rest (append_cancel_left (label_text n) _ _
    (sym (spread_out i u) ∙ h ∙ spread_out j v))) in
    let all = applied_alike (application i).0 (application j).0 (application i).1 (application j).1
    (59 ∷ 10 ∷ u) (59 ∷ 10 ∷ v) (word_inner i) (word_inner j)
    (told_operands (application i).1 a (are_words i)) (told_operands (application j).1 b (are_words j)) inner in
    (same_instruction i j a b all.0 all.1, same_rest (same_rest all.2))
  where
    spread_out : (i : Instr) (u : List ℕ) → instruction_line n i ++ u
        ≡ label_text n ++ 58 ∷ 32 ∷ (instruction_text i ++ 59 ∷ 10 ∷ u)
    spread_out i u =
        append_assoc (label_text n) (58 ∷ 32 ∷ (instruction_text i ++ 59 ∷ 10 ∷ [])) u
        ∙ ap (λ l. label_text n ++ 58 ∷ 32 ∷ l) (append_assoc (instruction_text i) (59 ∷ 10 ∷ []) u)

-- ---- functions

abbrev function_of : ℕ → ℕ → List Instr → Function
function_of params slots code = record { params = params; slots = slots; code = code }

same_function : (x y : Function) → x.params ≡ y.params → x.slots ≡ y.slots → x.code ≡ y.code → x ≡ y
same_function x y e f g = three function_of e f g

-- whether a text begins with this byte, and with these two
first_is : ℕ → List ℕ → Bool
first_is a text = get_or text 0 0 == a

two_are : ℕ → ℕ → List ℕ → Bool
two_are a b text = (get_or text 0 0 == a) && (get_or text 1 0 == b)

line_starts : (n : ℕ) (i : Instr) (u : List ℕ) → first_is 76 (instruction_line n i ++ u) ≡ true
unfolding first_is
line_starts n i u = refl

-- the parts of a function's text
abbrev head_line : ℕ → Function → List ℕ
head_line n f = line (codes "FUNCTION") (number n ∷ number f.params ∷ number f.slots ∷ [])

abbrev end_line : ℕ → List ℕ
end_line n = line (codes "END") (number n ∷ [])

abbrev body_text : ℕ → Function → List ℕ
body_text n f = numbered instruction_line 0 f.code ++ end_line n

head_operands : (f : Function) → IsToldFunction f → AreOperands (number f.params ∷ number f.slots ∷ [])
head_operands f h =
    (number_operand f.params (omega (arith, h.params)), (number_operand f.slots (omega (arith, h.slots)), tt))

no_instruction : (n : ℕ) (u : List ℕ) → first_is 76 (end_line n ++ u) ≡ false
unfolding first_is
no_instruction n u = refl

functions_alike : (n : ℕ) (x y : Function) (u v : List ℕ) → IsToldFunction x → IsToldFunction y
    → function_text n x ++ u ≡ function_text n y ++ v → (x ≡ y) × (u ≡ v)
unfolding first_text second_text
functions_alike n x y u v a b h =
    let head = lines_alike (codes "FUNCTION") (number n) (number x.params ∷ number x.slots ∷ [])
    (number y.params ∷ number y.slots ∷ []) (body_text n x ++ u) (body_text n y ++ v) (head_operands x a)
    (head_operands y b)
    (sym (append_assoc (head_line n x) (body_text n x) u) ∙ h ∙ append_assoc (head_line n y) (body_text n y) v)
    in
    let inner = numbered_alike instruction_line IsToldInstruction (first_is 76) line_starts instructions_alike 0
    x.code y.code (end_line n ++ u) (end_line n ++ v) a.code b.code (no_instruction n u) (no_instruction n v)
    (sym (append_assoc (numbered instruction_line 0 x.code) (end_line n) u) ∙ head.1
    ∙ append_assoc (numbered instruction_line 0 y.code) (end_line n) v) in (
      same_function x y
          (sym (value_is x.params a.params) ∙ ap (λ ts. value_in (first_text ts)) head.0 ∙ value_is y.params b.params)
          (sym (value_is x.slots a.slots) ∙ ap (λ ts. value_in (second_text ts)) head.0 ∙ value_is y.slots b.slots)
          inner.0,
      append_cancel_left (end_line n) u v inner.1,
    )

-- ---- code

-- what stands behind a list of lines of which none begins so doesn't either
module _ {A : Type 0} (text : ℕ → A → List ℕ) (begins : List ℕ → Bool)
    (other : (n : ℕ) (x : A) (u : List ℕ) → begins (text n x ++ u) ≡ false) where
  behind_others : (n : ℕ) (xs : List A) (u : List ℕ) → begins u ≡ false → begins (numbered text n xs ++ u) ≡ false
  behind_others n [] u h = h
  behind_others n (x ∷ xs) u h =
      ap begins (append_assoc (text n x) (numbered text (n + 1) xs) u)
      ∙ other n x (numbered text (n + 1) xs ++ u)

-- functions that are declared: as many on both sides, and the same behind them
declarations_alike : (n : ℕ) (xs ys : List Function) (u v : List ℕ) → two_are 68 69 u ≡ false
    → two_are 68 69 v ≡ false → numbered declare_line n xs ++ u ≡ numbered declare_line n ys ++ v → u ≡ v
unfolding two_are
declarations_alike n [] [] u v a b h = h
declarations_alike n [] (y ∷ ys) u v a b h = absurd (true≢false (sym (ap (two_are 68 69) h) ∙ a))
declarations_alike n (x ∷ xs) [] u v a b h = absurd (true≢false (ap (two_are 68 69) h ∙ b))
declarations_alike n (x ∷ xs) (y ∷ ys) u v a b h =
    let w = line (codes "DECLARE") (number n ∷ []) in
    declarations_alike (n + 1) xs ys u v a b
    (append_cancel_left w _ _
    (sym (append_assoc w (numbered declare_line (n + 1) xs) u) ∙ h
    ∙ append_assoc w (numbered declare_line (n + 1) ys) v))

abbrev code_of : List (List ℕ) → List LowType → List Function → Bool → Code
code_of texts types functions root =
    record { texts = texts; types = types; functions = functions; root = root }

same_code : (x y : Code) → x.texts ≡ y.texts → x.types ≡ y.types → x.functions ≡ y.functions → x.root ≡ y.root
    → x ≡ y
same_code x y e f g h =
    three (λ a b c. code_of a b c x.root) e f g ∙ ap (λ r. code_of y.texts y.types y.functions r) h

roots_alike : (a b : Bool) → entry_line a ≡ entry_line b → a ≡ b
unfolding digits
roots_alike true true h = refl
roots_alike true false h = let e : 49 ≡ 48 = ap (λ l. get_or l 9 0) h in absurd (omega (arith, e))
roots_alike false true h = let e : 48 ≡ 49 = ap (λ l. get_or l 9 0) h in absurd (omega (arith, e))
roots_alike false false h = refl

-- what stands behind the texts, the types and the declarations of code
abbrev after_declarations : Code → List ℕ
after_declarations code = numbered function_text 0 code.functions ++ entry_line code.root

abbrev after_types : Code → List ℕ
after_types code = numbered declare_line 0 code.functions ++ after_declarations code

abbrev after_texts : Code → List ℕ
after_texts code = numbered type_line 0 code.types ++ after_types code

-- no text begins so
no_function : (a b : ℕ) → two_are a b (codes "FU") ≡ false → two_are a b (codes "EN") ≡ false → (code : Code)
    → two_are a b (after_declarations code) ≡ false
unfolding two_are
no_function a b f e code =
    behind_others function_text (two_are a b) (λ n t u. f) 0 code.functions (entry_line code.root) e

no_text : (code : Code) → two_are 84 69 (after_texts code) ≡ false
unfolding two_are
no_text code =
    behind_others type_line (two_are 84 69) (λ n t u. refl) 0 code.types (after_types code)
    (behind_others declare_line (two_are 84 69) (λ n t u. refl) 0 code.functions (after_declarations code)
    (no_function 84 69 refl refl code))

no_type : (code : Code) → two_are 84 89 (after_types code) ≡ false
unfolding two_are
no_type code =
    behind_others declare_line (two_are 84 89) (λ n t u. refl) 0 code.functions (after_declarations code)
    (no_function 84 89 refl refl code)

no_declaration : (code : Code) → two_are 68 69 (after_declarations code) ≡ false
unfolding two_are
no_declaration code = no_function 68 69 refl refl code

text_starts : (n : ℕ) (t u : List ℕ) → two_are 84 69 (text_line n t ++ u) ≡ true
unfolding two_are
text_starts n t u = refl

type_starts : (n : ℕ) (t : LowType) (u : List ℕ) → two_are 84 89 (type_line n t ++ u) ≡ true
unfolding two_are
type_starts n t u = refl

function_starts : (n : ℕ) (f : Function) (u : List ℕ) → two_are 70 85 (function_text n f ++ u) ≡ true
unfolding two_are
function_starts n f u = refl

no_entry : (root : Bool) → two_are 70 85 (entry_line root) ≡ false
unfolding two_are
no_entry root = refl

lines_tell : (x y : Code) → IsToldCode x → IsToldCode y → lines_of x ≡ lines_of y → x ≡ y
lines_tell x y a b h =
    let texts = numbered_alike text_line IsToldText (two_are 84 69) text_starts texts_alike 0 x.texts y.texts
    (after_texts x) (after_texts y) a.texts b.texts (no_text x) (no_text y) h in
    let types = numbered_alike type_line IsToldType (two_are 84 89) type_starts types_alike 0 x.types y.types
    (after_types x) (after_types y) a.types b.types (no_type x) (no_type y) texts.1 in
    let declared = declarations_alike 0 x.functions y.functions (after_declarations x) (after_declarations y)
    (no_declaration x) (no_declaration y) types.1 in
    let functions = numbered_alike function_text IsToldFunction (two_are 70 85) function_starts functions_alike 0
    x.functions y.functions (entry_line x.root) (entry_line y.root) a.functions b.functions (no_entry x.root)
    (no_entry y.root) declared in
    same_code x y texts.0 types.0 functions.0 (roots_alike x.root y.root functions.1)

pub text_tells : (x y : Code) → IsToldCode x → IsToldCode y → c_text x ≡ c_text y → x ≡ y
unfolding c_text
text_tells x y a b h = lines_tell x y a b (append_cancel_left prelude (lines_of x) (lines_of y) h)
