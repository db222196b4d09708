-- Walks one after another, branches and arms.
use Rattle.std.proofs.Common.{◌≡◌, ◌≢◌, ℕ, ◌+◌, List, [], ◌∷◌, length, drop, get_or, ◌<◌, ◌≤◌, refl, sym, ap}
use Rattle.std.proofs.Common.{subst, ◌∙◌, arith, Vec, Result, Ok, Err}
use Rattle.std.specs.Global.{Global}
use Rattle.au_base.specs.declared.places.Pos.{Pos}
use Rattle.au_base.proofs.ListLemmas.{next_item}
use Rattle.au_syntax.specs.declared.phases.Phase.{Ghosts}
use Rattle.std.proofs.lemmas.List.{drop_all}
use Rattle.au_syntax.specs.declared.statements.Stmt.{Stmt}
use Rattle.au_syntax.specs.declared.statements.Stmt as code
use Rattle.std.specs.declared.boxed.Box.{Box}
use Rattle.au_syntax.specs.declared.expressions.Expr.{Expr}
use Rattle.au_syntax.specs.declared.statements.Block.{Block}
use Rattle.au_syntax.specs.declared.statements.Branch.{Branch}
use Rattle.au_syntax.specs.declared.statements.Arm.{Arm}
use Rattle.au_syntax.proofs.StatementLemmas.{if_says, if_else_says, case_says}
use Rattle.au_syntax.specs.Plain.{plain_statement, Bytes, PlainBranches, PlainArms, PlainExpression}
use Rattle.au_syntax.specs.Plain.{PlainStatements}
use Rattle.au_syntax.specs.Statements.{case_of, no_arms, arms}
use Rattle.au_lives.specs.declared.lives.Sort.{Sort}
use Rattle.au_lives.specs.Lives.{Hold, held_from}
use Rattle.au_lives.specs.Paths.{whole, bound_names, declared_by}
use Rattle.au_lives.specs.Walks.{Reach, Walk, nowhere, choose, merge, joined, walk, walk_block, walk_branches}
use Rattle.au_lives.specs.Walks.{walk_arms, walk_step, does, noted, ◌>>=◌}
use Rattle.au_paths.specs.declared.reaches.Reached.{Reached}
use Rattle.au_paths.specs.declared.reaches.Stop.{Stop}
use Rattle.au_paths.specs.declared.reaches.Stop.TheVariants as stops
use Rattle.au_paths.specs.declared.reaches.Fork.{Fork}
use Rattle.au_paths.specs.Seen.{seen_expression, seen_statement, seen_statements, seen_block, seen_binds}
use Rattle.au_paths.specs.Seen.{seen_branches, seen_arms}
use Rattle.au_paths.specs.Standing.{reach_of, Stops, Gives, Forks, Branches, walk_each, walk_case}

-- a walk that ends early ends what follows
pub stops_on : (e : Stop) (w : Walk) (k : Reach → Walk) → Stops e w → Stops e (w >>= k)
stops_on stops.Memory w k h = tt
stops_on (stops.Breach b) w k h = ap (λ (v : Walk). v >>= k) h

pub stops_at : (e : Stop) {v w : Walk} → v ≡ w → Stops e v → Stops e w
stops_at e p h = subst (Stops e) p h

pub goes_on : (w : Walk) (k : Reach → Walk) (r : Reach) → w ≡ Ok r → (w >>= k) ≡ k r
goes_on w k r h = ap (λ (v : Walk). v >>= k) h

abbrev reached : Walk → Reach
reached (Ok r) = r
reached (Err e) = nowhere

-- an arm's states are merged with those of the arms before
merged : (w : Walk) (k : Reach → Walk) (out more : Reach) → (w >>= joined out) ≡ Ok more →
    (w >>= (λ o. k (merge out o))) ≡ k more
merged (Ok o) k out more h = ap (λ (v : Walk). k (reached v)) h
merged (Err e) k out more h = absurd (cc)

unmerged : (e : Stop) (w : Walk) (k l : Reach → Walk) (out : Reach) → Stops e (w >>= joined out) →
    Stops e (w >>= l)
unmerged stops.Memory w k l out h = tt
unmerged (stops.Breach b) (Ok o) k l out h = absurd (cc)
unmerged (stops.Breach b) (Err e) k l out h = h

same_after : (w : Walk) (k l : Reach → Walk) → ((r : Reach) → k r ≡ l r) → (w >>= k) ≡ (w >>= l)
same_after (Ok r) k l h = h r
same_after (Err e) k l h = refl

module _ (x : Bytes) (sort : Sort) where
  arms_each : (more : PlainArms) (h : Hold) (this : Reach → Walk) (i : ℕ) (r out : Reach) →
      walk_arms x sort more h this i r out
      ≡ (this (choose i r) >>= (λ o. walk_each x sort more h (i + 1) r (merge out o)))
  arms_each no_arms h this i r out = refl
  arms_each (arms when' name binds b more) h this i r out =
      same_after (this (choose i r))
      (λ o. walk_arms x sort more h (walk_block x sort b (held_from x (bound_names binds) h))
      (i + 1) r (merge out o))
      (λ o. walk_each x sort (arms when' name binds b more) h (i + 1) r (merge out o))
      (λ o. arms_each more h (walk_block x sort b (held_from x (bound_names binds) h))
      (i + 1) r (merge out o))

module _ {X N T C : Type 0} (g : Ghosts X N T C) (x : Bytes) (sort : Sort) (h : Hold) (q : Reach) where
  -- a case that has an arm
  pub case_some : (xs : List (Arm X N T C)) → length xs ≢ 0 →
      walk_case x sort (seen_arms g xs) h q ≡ walk_each x sort (seen_arms g xs) h 0 q nowhere
  case_some [] n = absurd (n refl)
  case_some (a ∷ rest) n =
      arms_each x sort (seen_arms g rest) h
      (walk_block x sort (seen_block g a.block) (held_from x (bound_names (seen_binds g a.binds.items)) h))
      0 q nowhere

  pub case_empty : (xs : List (Arm X N T C)) → length xs ≡ 0 →
      walk_case x sort (seen_arms g xs) h q ≡ Ok (choose 0 q)
  case_empty [] n = refl
  case_empty (a ∷ rest) n = absurd (omega (arith, n))

  pub case_done : (xs : List (Arm X N T C)) (i : ℕ) (out : Reach) → length xs ≢ 0 → length xs ≤ i →
      walk_each x sort (seen_arms g (drop i xs)) h i q out ≡ walk_each x sort (seen_arms g xs) h 0 q nowhere →
      walk_case x sort (seen_arms g xs) h q ≡ Ok out
  case_done xs i out n past before =
      case_some xs n ∙ sym before ∙ ap (λ l. walk_each x sort (seen_arms g l) h i q out) (drop_all i xs past)

  -- behind all arms, or where there is none
  pub case_ends : (xs : List (Arm X N T C)) (i : ℕ) (out : Reach) (r : Result Reached Stop) → length xs ≤ i →
      walk_each x sort (seen_arms g (drop i xs)) h i q out ≡ walk_each x sort (seen_arms g xs) h 0 q nowhere →
      (length xs ≡ 0 → Gives r (Ok (choose 0 q))) → (length xs ≢ 0 → Gives r (Ok out)) →
      Gives r (walk_case x sort (seen_arms g xs) h q)
  case_ends [] i out r past before none some = none refl
  case_ends (a ∷ rest) i out r past before none some =
      subst (Gives r) (sym (case_done (a ∷ rest) i out (omega arith) past before)) (some (omega arith))

  pub arm_goes : (xs : List (Arm X N T C)) (i : ℕ) (a : Arm X N T C) → a ≡ get_or xs i a → i < length xs →
      (out more : Reach) (w : Walk) → walk_each x sort (seen_arms g (drop i xs)) h i q out ≡ w →
      (walk_block x sort (seen_block g a.block) (held_from x (bound_names (seen_binds g a.binds.items)) h)
      (choose i q) >>= joined out) ≡ Ok more →
      walk_each x sort (seen_arms g (drop (i + 1) xs)) h (i + 1) q more ≡ w
  arm_goes xs i a is lt out more w before one =
      sym (merged (walk_block x sort (seen_block g a.block)
      (held_from x (bound_names (seen_binds g a.binds.items)) h) (choose i q))
      (walk_each x sort (seen_arms g (drop (i + 1) xs)) h (i + 1) q) out more one)
      ∙ sym (ap (λ l. walk_each x sort (seen_arms g l) h i q out) (next_item xs i a is lt))
      ∙ before

  pub arm_stops : (xs : List (Arm X N T C)) (i : ℕ) (a : Arm X N T C) → a ≡ get_or xs i a → i < length xs →
      (out : Reach) (e : Stop) →
      walk_each x sort (seen_arms g (drop i xs)) h i q out ≡ walk_each x sort (seen_arms g xs) h 0 q nowhere →
      Stops e (walk_block x sort (seen_block g a.block)
      (held_from x (bound_names (seen_binds g a.binds.items)) h) (choose i q) >>= joined out) →
      Stops e (walk_case x sort (seen_arms g xs) h q)
  arm_stops xs i a is lt out e before one =
      stops_at e
      (sym (ap (λ l. walk_each x sort (seen_arms g l) h i q out) (next_item xs i a is lt)) ∙ before
      ∙ sym (case_some xs (omega (arith, lt))))
      (unmerged e (walk_block x sort (seen_block g a.block)
      (held_from x (bound_names (seen_binds g a.binds.items)) h) (choose i q))
      Ok (λ o. walk_each x sort (seen_arms g (drop (i + 1) xs)) h (i + 1) q (merge out o)) out one)

module _ {X N T C : Type 0} (g : Ghosts X N T C) (x : Bytes) (sort : Sort) where
  pub block_goes : (xs : List (Stmt X N T C)) (i : ℕ) (a : Stmt X N T C) → a ≡ get_or xs i a → i < length xs →
      (h k : Hold) (r s : Reach) (w : Walk) → walk_block x sort (seen_statements g (drop i xs)) h r ≡ w →
      walk x sort (seen_statement g a) h r ≡ Ok s → k ≡ held_from x (declared_by (seen_statement g a)) h →
      walk_block x sort (seen_statements g (drop (i + 1) xs)) k s ≡ w
  block_goes xs i a is lt h k r s w before one held =
      ap (λ k. walk_block x sort (seen_statements g (drop (i + 1) xs)) k s) held
      ∙ sym (goes_on (walk x sort (seen_statement g a) h r)
      (walk_block x sort (seen_statements g (drop (i + 1) xs))
      (held_from x (declared_by (seen_statement g a)) h)) s one)
      ∙ sym (ap (λ l. walk_block x sort (seen_statements g l) h r) (next_item xs i a is lt))
      ∙ before

  pub block_stops : (xs : List (Stmt X N T C)) (i : ℕ) (a : Stmt X N T C) → a ≡ get_or xs i a →
      i < length xs → (h : Hold) (r : Reach) (w : Walk) (e : Stop) →
      walk_block x sort (seen_statements g (drop i xs)) h r ≡ w →
      Stops e (walk x sort (seen_statement g a) h r) → Stops e w
  block_stops xs i a is lt h r w e before one =
      stops_at e
      (sym (ap (λ l. walk_block x sort (seen_statements g l) h r) (next_item xs i a is lt)) ∙ before)
      (stops_on e (walk x sort (seen_statement g a) h r)
      (walk_block x sort (seen_statements g (drop (i + 1) xs))
      (held_from x (declared_by (seen_statement g a)) h)) one)

  pub block_ends : (xs : List (Stmt X N T C)) (i : ℕ) → length xs ≤ i → (h : Hold) (r : Reach) (w : Walk) →
      walk_block x sort (seen_statements g (drop i xs)) h r ≡ w → w ≡ Ok r
  block_ends xs i past h r w before =
      sym before ∙ ap (λ l. walk_block x sort (seen_statements g l) h r) (drop_all i xs past)

  pub branch_goes : (xs : List (Branch X N T C)) (i : ℕ) (a : Branch X N T C) → a ≡ get_or xs i a →
      i < length xs → (h : Hold) (f more : Fork) (w : (Reach → Walk) → Walk) →
      ((other : Reach → Walk) → walk_branches x sort (seen_branches g (drop i xs)) h other i (reach_of f.at)
      (reach_of f.out) ≡ w other) →
      Branches x sort h (Ok more) (seen_expression g a.test.value) (seen_block g a.block) i f →
      (other : Reach → Walk) →
      walk_branches x sort (seen_branches g (drop (i + 1) xs)) h other (i + 1) (reach_of more.at)
      (reach_of more.out) ≡ w other
  branch_goes xs i a is lt h f more w before one other =
      sym (one (seen_branches g (drop (i + 1) xs)) other)
      ∙ sym (ap (λ l. walk_branches x sort (seen_branches g l) h other i (reach_of f.at) (reach_of f.out))
      (next_item xs i a is lt))
      ∙ before other

  pub branch_stops : (xs : List (Branch X N T C)) (i : ℕ) (a : Branch X N T C) → a ≡ get_or xs i a →
      i < length xs → (h : Hold) (f : Fork) (n : ℕ) (e : Stop) (w : (Reach → Walk) → Walk) →
      ((other : Reach → Walk) → walk_branches x sort (seen_branches g (drop i xs)) h other i (reach_of f.at)
      (reach_of f.out) ≡ w other) →
      Branches x sort h (Err e) (seen_expression g a.test.value) (seen_block g a.block) i f →
      Forks (Err e) n w
  branch_stops xs i a is lt h f n e w before one other =
      stops_at e
      (sym (ap (λ l. walk_branches x sort (seen_branches g l) h other i (reach_of f.at) (reach_of f.out))
      (next_item xs i a is lt)) ∙ before other)
      (one (seen_branches g (drop (i + 1) xs)) other)

  pub branches_end : (xs : List (Branch X N T C)) (i : ℕ) → length xs ≤ i → i ≤ length xs →
      (h : Hold) (f : Fork) (w : (Reach → Walk) → Walk) →
      ((other : Reach → Walk) → walk_branches x sort (seen_branches g (drop i xs)) h other i (reach_of f.at)
      (reach_of f.out) ≡ w other) →
      Forks (Ok f) (length xs) w
  branches_end xs i past within h f w before other =
      let e : i ≡ length xs = omega (arith, past, within) in
      sym (before other)
      ∙ ap (λ l. walk_branches x sort (seen_branches g l) h other i (reach_of f.at) (reach_of f.out))
      (drop_all i xs past)
      ∙ ap (λ n. other (choose n (reach_of f.at)) >>= joined (reach_of f.out)) e

module _ {X N T C : Type 0} (g : Ghosts X N T C) (x : Bytes) (sort : Sort) (h : Hold) (r : Reach) where
  pub if_walks : (stmt : Stmt X N T C) (at : Pos) (bs : Vec (Branch X N T C) Global) → stmt ≡ code.If at bs →
      walk x sort (seen_statement g stmt) h r
      ≡ walk_branches x sort (seen_branches g bs.items) h Ok 0 r nowhere
  if_walks stmt at bs is =
      ap (λ s. walk x sort (seen_statement g s) h r) is
      ∙ ap (λ s. walk x sort (plain_statement g.name_bytes s) h r) (if_says g at bs)

  pub if_else_walks : (stmt : Stmt X N T C) (at : Pos) (bs : Vec (Branch X N T C) Global)
      (b : Block X N T C) → stmt ≡ code.IfElse at bs b →
      walk x sort (seen_statement g stmt) h r
      ≡ walk_branches x sort (seen_branches g bs.items) h (walk_block x sort (seen_block g b) h) 0 r nowhere
  if_else_walks stmt at bs b is =
      ap (λ s. walk x sort (seen_statement g s) h r) is
      ∙ ap (λ s. walk x sort (plain_statement g.name_bytes s) h r) (if_else_says g at bs b)

-- a case behind its expression
case_behind : (x : Bytes) (sort : Sort) (h : Hold) (r : Reach) (at : Pos) (e : PlainExpression)
    (rest : PlainArms) →
    walk x sort (case_of at e rest) h r ≡ (walk_step (does x sort (whole e) h) r >>= walk_case x sort rest h)
case_behind x sort h r at e no_arms = refl
case_behind x sort h r at e (arms when' name binds b more) = refl

module _ {X N T C : Type 0} (g : Ghosts X N T C) (x : Bytes) (sort : Sort) (h : Hold) (r : Reach) where
  pub case_walks : (stmt : Stmt X N T C) (at : Pos) (e : Box (Expr X N T C) Global)
      (rest : Vec (Arm X N T C) Global) → stmt ≡ code.Case at e rest →
      (q : Reach) → walk_step (does x sort (whole (seen_expression g e.value)) h) r ≡ Ok q →
      walk x sort (seen_statement g stmt) h r ≡ walk_case x sort (seen_arms g rest.items) h q
  case_walks stmt at e rest is q test =
      ap (λ s. walk x sort (seen_statement g s) h r) is
      ∙ ap (λ s. walk x sort (plain_statement g.name_bytes s) h r) (case_says g at e rest)
      ∙ case_behind x sort h r at (seen_expression g e.value) (seen_arms g rest.items)
      ∙ goes_on (walk_step (does x sort (whole (seen_expression g e.value)) h) r)
      (walk_case x sort (seen_arms g rest.items) h) q test

pub gives_at : (r : Result Reached Stop) {v w : Walk} → v ≡ w → Gives r v → Gives r w
gives_at r p h = subst (Gives r) p h

module _ (x : Bytes) (sort : Sort) (h : Hold) (i : ℕ) (e : PlainExpression) (b : PlainStatements)
    (f : Fork) where
  tests : Walk
  tests = noted i (walk_step (does x sort (whole e) h) (reach_of f.at))

  later : PlainBranches → (Reach → Walk) → Reach → Reach → Walk
  later more other q o = walk_branches x sort more h other (i + 1) q (merge (reach_of f.out) o)

  pub test_stops : (s : Stop) → Stops s (noted i (walk_step (does x sort (whole e) h) (reach_of f.at))) →
      Branches x sort h (Err s) e b i f
  unfolding tests later
  test_stops s hyp more other =
      stops_on s tests (λ q. walk_block x sort b h (choose i q) >>= later more other q) hyp

  pub part_stops : (s : Stop) (q entry : Reach) →
      noted i (walk_step (does x sort (whole e) h) (reach_of f.at)) ≡ Ok q → entry ≡ choose i q →
      Stops s (walk_block x sort b h entry) → Branches x sort h (Err s) e b i f
  unfolding tests later
  part_stops s q entry t en hyp more other =
      stops_at s (sym (goes_on tests (λ q. walk_block x sort b h (choose i q) >>= later more other q) q t))
      (stops_on s (walk_block x sort b h (choose i q)) (later more other q)
      (subst (λ v. Stops s (walk_block x sort b h v)) en hyp))

  pub branch_done : (q entry o : Reach) (next : Fork) →
      noted i (walk_step (does x sort (whole e) h) (reach_of f.at)) ≡ Ok q → entry ≡ choose i q →
      walk_block x sort b h entry ≡ Ok o → reach_of next.at ≡ q →
      reach_of next.out ≡ merge (reach_of f.out) o → Branches x sort h (Ok next) e b i f
  unfolding tests later
  branch_done q entry o next t en one at out more other =
      goes_on tests (λ q. walk_block x sort b h (choose i q) >>= later more other q) q t
      ∙ goes_on (walk_block x sort b h (choose i q)) (later more other q) o
      (ap (walk_block x sort b h) (sym en) ∙ one)
      ∙ ap (λ a. walk_branches x sort more h other (i + 1) a (merge (reach_of f.out) o)) (sym at)
      ∙ ap (walk_branches x sort more h other (i + 1) (reach_of next.at)) (sym out)
