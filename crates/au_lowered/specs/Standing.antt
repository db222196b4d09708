-- Code that stands in a function: where what is written stands, its parts stand in a row, and its labels are
-- the places between them.
use Rattle.std.specs.Prelude.{◌≡◌, ℕ, ◌+◌, Bool, List, [], ◌∷◌, length, Option, Some}
use Rattle.au_low.specs.declared.instructions.Instr.TheVariants.{Jump, JumpNot, ForTest, ForStep, Look, Store}
use Rattle.au_low.specs.declared.instructions.Instr.TheVariants.{Case}
use Rattle.au_lowered.specs.Drafts.{Draft, plain, Written, ◌>>◌, one, unless, when, either, looped}
use Rattle.au_lowered.specs.Statements.{ArmsWritten, arm_then, cases, count_of_cases, labels_of, turns}

-- by what stands at each place
module _ (get : ℕ → Option Draft) where
  -- instructions stand from a place on
  abbrev pub HasAt : ℕ → List Draft → Type 0
  HasAt p [] = Unit {0}
  HasAt p (draft ∷ rest) = (get p ≡ Some draft) × HasAt (p + 1) rest

  -- What is written stands from one place on up to another.
  pub record Stands (write : Written) (p q : ℕ) : Type 0 where
    pub has : HasAt p (write p)
    pub ends : q ≡ p + length (write p)

  -- So do arms.
  pub record ArmsStand (write : ℕ → ArmsWritten) (p q : ℕ) : Type 0 where
    pub has : HasAt p (write p).code
    pub ends : q ≡ p + length (write p).code

  -- ---- parts

  -- an instruction
  pub record InOne (draft : Draft) (p q : ℕ) : Type 0 where
    pub here : get p ≡ Some draft
    pub ends : q ≡ p + 1

  -- one piece behind another
  pub record InRow (a b : Written) (p q : ℕ) : Type 0 where
    pub middle : ℕ
    pub first : Stands a p middle
    pub second : Stands b middle q

  -- what is done where a test is true
  pub record InWhen (a : Written) (p q : ℕ) : Type 0 where
    pub test : get p ≡ Some (plain (JumpNot q))
    pub body : Stands a (p + 1) q

  -- two branches
  pub record InBranches (returns : Bool) (a b : Written) (p q : ℕ) : Type 0 where
    pub middle : ℕ
    pub other : ℕ
    pub test : get p ≡ Some (plain (JumpNot other))
    pub first : Stands a (p + 1) middle
    pub jump : Stands (unless returns (Jump q)) middle other
    pub second : Stands b other q

  -- `while`
  pub record InLoop (returns : Bool) (test body : Written) (p q : ℕ) : Type 0 where
    pub middle : ℕ
    pub after : ℕ
    pub first : Stands test p middle
    pub leave : get middle ≡ Some (plain (JumpNot q))
    pub turn : Stands body (middle + 1) after
    pub back : Stands (unless returns (Jump p)) after q

  -- `for`, behind its bounds
  pub record InTurns (returns : Bool) (slot : ℕ) (body : Written) (p q : ℕ) : Type 0 where
    pub after : ℕ
    pub leave : get p ≡ Some (plain (ForTest slot (slot + 1) q))
    pub look : get (p + 1) ≡ Some (plain (Look slot []))
    pub store : get (p + 1 + 1) ≡ Some (plain (Store (slot + 2)))
    pub turn : Stands body (p + 1 + 1 + 1) after
    pub back : Stands (unless returns (ForStep slot (slot + 1) (p + 1))) after q

  -- an arm, and others
  pub record InArm (unneeded : Bool) (tag : Option ℕ) (a : Written) (others : ℕ → ArmsWritten) (p q : ℕ)
      : Type 0 where
    pub middle : ℕ
    pub next : ℕ
    pub own : Stands a p middle
    pub jump : Stands (unless unneeded (Jump q)) middle next
    pub rest : ArmsStand others next q
    pub starts : (arm_then unneeded tag a others p).starts ≡ (tag, p) ∷ (others next).starts

  -- a case
  pub record InCases (slot : ℕ) (all : ℕ → ArmsWritten) (p q : ℕ) : Type 0 where
    pub goes : get p
        ≡ Some (plain (Case slot (labels_of (count_of_cases (all (p + 1)).starts) (all (p + 1)).starts)))
    pub arms : ArmsStand all (p + 1) q

  -- Where a whole stands, its parts stand so.
  pub record PartsStandIn : Type 0 where
    pub of_one : (draft : Draft) (p q : ℕ) → Stands (one draft) p q → InOne draft p q
    pub of_row : (a b : Written) (p q : ℕ) → Stands (a >> b) p q → InRow a b p q
    pub of_when : (a : Written) (p q : ℕ) → Stands (when a) p q → InWhen a p q
    pub of_branches : (returns : Bool) (a b : Written) (p q : ℕ) → Stands (either returns a b) p q
        → InBranches returns a b p q
    pub of_loop : (returns : Bool) (test body : Written) (p q : ℕ) → Stands (looped returns test body) p q
        → InLoop returns test body p q
    pub of_turns : (returns : Bool) (slot : ℕ) (body : Written) (p q : ℕ)
        → Stands (turns returns slot body) p q → InTurns returns slot body p q
    pub of_arm : (unneeded : Bool) (tag : Option ℕ) (a : Written) (others : ℕ → ArmsWritten) (p q : ℕ)
        → ArmsStand (arm_then unneeded tag a others) p q → InArm unneeded tag a others p q
    pub of_cases : (slot : ℕ) (all : ℕ → ArmsWritten) (p q : ℕ) → Stands (cases slot all) p q
        → InCases slot all p q

abbrev pub PartsStand : Type 0
PartsStand = (get : ℕ → Option Draft) → PartsStandIn get
