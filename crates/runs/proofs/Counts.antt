-- What a run counts, over steps one after another.
use Rattle.std.proofs.Common.{◌≡◌, ◌≢◌, ◌+◌, ◌-◌, ◌<◌, ◌≤◌, ◌^◌, ◌==◌, ◌||◌, Bool, true, false, cond, get_or, length, min, set, ℕ, List, [], ◌∷◌, ◌++◌, ap, ap₂, arith, inl, inr, nat_le, refl, subst, sym, ◌∙◌}
use Rattle.std.proofs.lemmas.Bool.{cases_Bool, cases_lt, eq-eqb, eqb-true, le-leb, leb-true}
use Rattle.std.proofs.lemmas.List.{get_or-replicate, get_or-set_other, get_or-set_same, get_or_past, length-replicate, map-append}
use Rattle.std.specs.Prelude.{None, Option, replicate, if◌then◌else◌}
use Rattle.coordinator.specs.Steps.{move_of}
use Rattle.coordinator.specs.declared.Step.{Step}
use Rattle.coordinator.specs.declared.Step.TheVariants.{Checkpoint as CheckpointStep, Commit as CommitStep, Post as PostStep, SealedCheckpoint, Take as TakeStep, JudgedCommit as JudgedStep}
use Rattle.eventkey.specs.declared.Signed.{Signed}
use Rattle.runs.proofs.Shapes.{one_round_more}
use Rattle.runs.specs.Budgets.{first_budget}
use Rattle.runs.specs.declared.budgets.NodeBudget.{NodeBudget}
use Rattle.runs.specs.declared.rounds.Batch.{Batch}
use Rattle.runs.specs.Driver.{AreAsked, AreBudgeted, AreCounts, AreRounds, IsRound, Made, budgets_after, budgets_by, closing_of, commit_by, commits_in, events_due, handled_by, handled_in, handled_of, kept_after, least_answered, least_by, moves_of, steps_of, outstanding_after, outstanding_by, reported_after, reported_since, round_after}
use Rattle.runs.specs.Tallies.{AreCounted, CountsNothing, IsSized, IsTallied, IsTallyOf, Tallied, handled_after}
use Rattle.runs.specs.declared.rounds.Plan.{Plan}
use Rattle.runs.specs.declared.rounds.Round.{Round}
use Rattle.runs.specs.declared.tally.Tally.{Tally}
use Rattle.gvt.specs.Moves.Move.{Checkpoint, Commit, Take}
use Rattle.gvt.specs.declared.Answer.{Answer}
use Rattle.gvt.specs.declared.Answer.TheVariants.{AlreadyAt, Checkpointed, Committed, Posted, Taken}

pub reported_more : (reported : ℕ) (ks ls : List Made) → reported_since reported (ks ++ ls) ≡ reported_since (reported_since reported ks) ls
reported_more reported [] ls = refl
reported_more reported (k ∷ ks) ls = reported_more (reported_after reported (move_of k.step) k.answer) ks ls

pub outstanding_more : (outstanding : List (Option ℕ)) (ks ls : List Made) → outstanding_after outstanding (ks ++ ls) ≡ outstanding_after (outstanding_after outstanding ks) ls
outstanding_more outstanding [] ls = refl
outstanding_more outstanding (k ∷ ks) ls = outstanding_more (outstanding_by outstanding (move_of k.step) k.answer) ks ls

pub least_more : (time : ℕ) (outstanding : List (Option ℕ)) (ks ls : List Made) → least_answered time outstanding (ks ++ ls) ≡ least_answered (least_answered time outstanding ks) (outstanding_after outstanding ks) ls
least_more time outstanding [] ls = refl
least_more time outstanding (k ∷ ks) ls = least_more (least_by time outstanding (move_of k.step)) (outstanding_by outstanding (move_of k.step) k.answer) ks ls

pub commits_more : (ks ls : List Made) → commits_in (ks ++ ls) ≡ commits_in ks + commits_in ls
commits_more [] ls = omega arith
commits_more (k ∷ ks) ls = (let more = commits_more ks ls in omega (arith, more))

pub steps_more : (ks ls : List Made) → steps_of (ks ++ ls) ≡ steps_of ks ++ steps_of ls
steps_more ks ls = map-append (λ (k : Made). k.step) ks ls

pub moves_more : (ks ls : List Made) → moves_of (ks ++ ls) ≡ moves_of ks ++ moves_of ls
moves_more ks ls = map-append (λ (k : Made). move_of k.step) ks ls

pub handled_more : (node : ℕ) (ks ls : List Made) → handled_of node (ks ++ ls) ≡ handled_of node ks + handled_of node ls
handled_more node [] ls = omega arith
handled_more node (k ∷ ks) ls = (let more = handled_more node ks ls in omega (arith, more))

-- lists that keep their lengths
pub still_sized : (nodes : ℕ) (old new : Tally) → length new.budgets.items ≡ length old.budgets.items → length new.outstanding.items ≡ length old.outstanding.items → length new.turns.items ≡ length old.turns.items
    → length new.handled_per_node.items ≡ length old.handled_per_node.items → IsSized nodes old → IsSized nodes new
still_sized nodes old new budgets outstanding turns handled is =
    record { budgets = budgets ∙ is.budgets; outstanding = outstanding ∙ is.outstanding; turns = turns ∙ is.turns; handled = handled ∙ is.handled }

capped : (a b : ℕ) → a ≡ b → min a (2 ^ 64 - 1) ≡ min b (2 ^ 64 - 1)
capped a b is = ap (λ (n : ℕ). min n (2 ^ 64 - 1)) is

budgets_more : (budgets : List NodeBudget) (ks ls : List Made) → budgets_after budgets (ks ++ ls) ≡ budgets_after (budgets_after budgets ks) ls
budgets_more budgets [] ls = refl
budgets_more budgets (k ∷ ks) ls = budgets_more (budgets_by budgets (move_of k.step) k.answer) ks ls

budgeted_more : (batch : Batch) (budgets : List NodeBudget) (ks ls : List Made) → AreBudgeted batch budgets ks → AreBudgeted batch (budgets_after budgets ks) ls → AreBudgeted batch budgets (ks ++ ls)
budgeted_more batch budgets [] ls first second = second
budgeted_more batch budgets (k ∷ ks) ls first second = (first.0, budgeted_more batch (budgets_by budgets (move_of k.step) k.answer) ks ls first.1 second)

counted_more : (old mid new : List ℕ) (ks ls : List Made) → AreCounted old mid ks → AreCounted mid new ls → AreCounted old new (ks ++ ls)
counted_more old mid new ks ls first second node before is =
    let more = handled_more node ks ls in
    let sum : before + handled_of node ks + handled_of node ls ≡ before + handled_of node (ks ++ ls) = omega (arith, more) in
    second node (before + handled_of node ks) (first node before is) ∙ capped (before + handled_of node ks + handled_of node ls) (before + handled_of node (ks ++ ls)) sum

-- steps in which no node handles a message
pub none_counted : (old new : List ℕ) (made : List Made) → new ≡ old → ((node : ℕ) → handled_of node made ≡ 0) → AreCounted old new made
none_counted old new made same none node before is =
    let nothing = none node in
    let sum : before ≡ before + handled_of node made = omega (arith, nothing) in
    ap (λ (counts : List ℕ). get_or counts node 0) same ∙ (is ∙ capped before (before + handled_of node made) sum)

handled_after_is : (count before : ℕ) (answer : Answer) → count ≡ min before (2 ^ 64 - 1) → handled_after count answer ≡ min (before + handled_in answer) (2 ^ 64 - 1)
handled_after_is count before (Taken ran out fossils) is = omega (arith, is)
handled_after_is count before (Posted floor) is = is ∙ capped before (before + 0) (omega arith)
handled_after_is count before (Committed time events) is = is ∙ capped before (before + 0) (omega arith)
handled_after_is count before (AlreadyAt time) is = is ∙ capped before (before + 0) (omega arith)
handled_after_is count before (Checkpointed time) is = is ∙ capped before (before + 0) (omega arith)

-- a step that makes a checkpoint
pub checkpoint_counts : (step : Step) (transit : List Signed) (answer : Answer) → move_of step ≡ Checkpoint → CountsNothing (record { step = step; transit = transit; answer = answer } ∷ [])
checkpoint_counts CheckpointStep transit answer is = record { reported = λ reported. refl; commits = refl; outstanding = λ outstanding. refl; budgets = λ budgets. refl; budgeted = λ batch budgets. (tt, tt); handled = λ node. refl }
checkpoint_counts SealedCheckpoint transit answer is = record { reported = λ reported. refl; commits = refl; outstanding = λ outstanding. refl; budgets = λ budgets. refl; budgeted = λ batch budgets. (tt, tt); handled = λ node. refl }
checkpoint_counts CommitStep transit answer is = absurd (cc)
checkpoint_counts JudgedStep transit answer is = absurd (cc)
checkpoint_counts (TakeStep node) transit answer is = absurd (cc)
checkpoint_counts (PostStep node picks budget) transit answer is = absurd (cc)

-- a step that is not the take of a node
pub not_counted : (old new : List ℕ) → new ≡ old → (node before : ℕ) → get_or old node 0 ≡ min before (2 ^ 64 - 1) → get_or new node 0 ≡ min (before + (0 + 0)) (2 ^ 64 - 1)
not_counted old new same node before is = ap (λ (counts : List ℕ). get_or counts node 0) same ∙ (is ∙ capped before (before + (0 + 0)) (omega arith))

-- a step that commits
pub commit_tallied : (plan : Plan) (old new : Tally) (step : Step) (transit : List Signed) (answer : Answer) → move_of step ≡ Commit → new.events_until_commit ≡ plan.commit_every → new.commits ≡ old.commits + 1 → new.outstanding.items ≡ old.outstanding.items → new.budgets.items ≡ old.budgets.items
    → new.handled_per_node.items ≡ old.handled_per_node.items → IsTallied plan old new (record { step = step; transit = transit; answer = answer } ∷ [])
commit_tallied plan old new CommitStep transit answer is events commits outstanding budgets handled =
    record { events_until_commit = λ reported before. omega (arith, events); commits = omega (arith, commits); outstanding = outstanding; budgets = budgets; budgeted = (tt, tt); handled = not_counted old.handled_per_node.items new.handled_per_node.items handled }
commit_tallied plan old new JudgedStep transit answer is events commits outstanding budgets handled =
    record { events_until_commit = λ reported before. omega (arith, events); commits = omega (arith, commits); outstanding = outstanding; budgets = budgets; budgeted = (tt, tt); handled = not_counted old.handled_per_node.items new.handled_per_node.items handled }
commit_tallied plan old new CheckpointStep transit answer is events commits outstanding budgets handled = absurd (cc)
commit_tallied plan old new SealedCheckpoint transit answer is events commits outstanding budgets handled = absurd (cc)
commit_tallied plan old new (TakeStep node) transit answer is events commits outstanding budgets handled = absurd (cc)
commit_tallied plan old new (PostStep node picks budget) transit answer is events commits outstanding budgets handled = absurd (cc)

-- the take of a node
pub take_counted : (n : ℕ) (old new : List ℕ) (answer : Answer) → n < length old → new ≡ set old n (handled_after (get_or old n 0) answer) → (node before : ℕ) → get_or old node 0 ≡ min before (2 ^ 64 - 1)
    → get_or new node 0 ≡ min (before + (handled_by node (Take n) answer + 0)) (2 ^ 64 - 1)
take_counted n old new answer l is node before e = elim (cases_Bool (n == node)) [
  | inl hit ↦
      let same : n ≡ node = eqb-true n node hit in
      let own : handled_by node (Take n) answer ≡ handled_in answer = ap (λ (b : Bool). cond b (handled_in answer) 0) hit in
      let sum : before + handled_in answer ≡ before + (handled_by node (Take n) answer + 0) = omega (arith, own) in
      let begun : get_or old n 0 ≡ min before (2 ^ 64 - 1) = ap (λ (i : ℕ). get_or old i 0) same ∙ e in
      ap (λ (i : ℕ). get_or new i 0) (sym same) ∙ (ap (λ (counts : List ℕ). get_or counts n 0) is ∙ (get_or-set_same old n (handled_after (get_or old n 0) answer) 0 l
      ∙ (handled_after_is (get_or old n 0) before answer begun ∙ capped (before + handled_in answer) (before + (handled_by node (Take n) answer + 0)) sum)))
  | inr miss ↦
      let own : handled_by node (Take n) answer ≡ 0 = ap (λ (b : Bool). cond b (handled_in answer) 0) miss in
      let sum : before ≡ before + (handled_by node (Take n) answer + 0) = omega (arith, own) in
      let apart : node ≢ n = λ same. (let hit = eq-eqb n node (sym same) in absurd (cc)) in
      ap (λ (counts : List ℕ). get_or counts node 0) is ∙ (get_or-set_other old n node (handled_after (get_or old n 0) answer) 0 apart ∙ (e ∙ capped before (before + (handled_by node (Take n) answer + 0)) sum))
]

-- before the first step
pub none_handled : (nodes : ℕ) (counts : List ℕ) → counts ≡ replicate nodes 0 → AreCounts counts []
none_handled nodes counts is node =
    let first : get_or (replicate nodes 0) node 0 ≡ 0 = elim (cases_lt node nodes) [
      | inl l ↦ get_or-replicate nodes node 0 0 l
      | inr l ↦ get_or_past (replicate nodes 0) node 0 (let long = length-replicate {A = ℕ} nodes 0 in omega (arith, long, l))
    ] in
    ap (λ (c : List ℕ). get_or c node 0) is ∙ (first ∙ omega arith)

module _ (plan : Plan) where
  pub tallied_more : (old mid new : Tally) (ks ls : List Made) → IsTallied plan old mid ks → IsTallied plan mid new ls → IsTallied plan old new (ks ++ ls)
  tallied_more old mid new ks ls first second = record {
    handled = counted_more old.handled_per_node.items mid.handled_per_node.items new.handled_per_node.items ks ls first.handled second.handled;
    events_until_commit = λ reported is. second.events_until_commit (reported_since reported ks) (first.events_until_commit reported is) ∙ ap (λ (n : ℕ). plan.commit_every - n) (sym (reported_more reported ks ls));
    commits = (let more = commits_more ks ls in omega (arith, more, first.commits, second.commits));
    outstanding = second.outstanding ∙ ap (λ (o : List (Option ℕ)). outstanding_after o ls) first.outstanding ∙ sym (outstanding_more old.outstanding.items ks ls);
    budgets = second.budgets ∙ ap (λ (b : List NodeBudget). budgets_after b ls) first.budgets ∙ sym (budgets_more old.budgets.items ks ls);
    budgeted = budgeted_more plan.batch old.budgets.items ks ls first.budgeted (subst (λ (b : List NodeBudget). AreBudgeted plan.batch b ls) first.budgets second.budgeted);
  }

  pub none_tallied : (t : Tally) → IsTallied plan t t []
  none_tallied t = record { events_until_commit = λ reported is. is; commits = omega arith; outstanding = refl; budgets = refl; budgeted = tt; handled = none_counted t.handled_per_node.items t.handled_per_node.items [] refl (λ node. refl) }

  pub no_move : (S : List Made → Type 0) (t : Tally) → S [] → Tallied plan S t t []
  no_move S t none = record { shape = none; tally = none_tallied t; floor = refl }

  -- the shape of the later steps may depend on the parcels outstanding after the earlier ones
  pub both_after : (S T U : List Made → Type 0) (old mid new : Tally) → ((ks ls : List Made) → mid.outstanding.items ≡ outstanding_after old.outstanding.items ks → S ks → T ls → U (ks ++ ls)) → (ks ls : List Made) → Tallied plan S old mid ks → Tallied plan T mid new ls
      → Tallied plan U old new (ks ++ ls)
  both_after S T U old mid new both ks ls first second = record {
    shape = both ks ls first.tally.outstanding first.shape second.shape;
    tally = tallied_more old mid new ks ls first.tally second.tally;
    floor = second.floor ∙ ap₂ (λ (n : ℕ) (o : List (Option ℕ)). least_answered n o ls) first.floor first.tally.outstanding ∙ sym (least_more old.floor old.outstanding.items ks ls);
  }

  pub both_tallied : (S T U : List Made → Type 0) (old mid new : Tally) → ((ks ls : List Made) → S ks → T ls → U (ks ++ ls)) → (ks ls : List Made) → Tallied plan S old mid ks → Tallied plan T mid new ls
      → Tallied plan U old new (ks ++ ls)
  both_tallied S T U old mid new both = both_after S T U old mid new (λ ks ls same. both ks ls)

  -- a commit, and a checkpoint if one is due
  pub commit_kept : (number : ℕ) (old new : Tally) (ks ls : List Made) → number ≡ old.commits + 1 → (steps_of ks ≡ commit_by plan ∷ []) × IsTallied plan old new ks → (steps_of ls ≡ kept_after plan number) × CountsNothing ls
      → (steps_of (ks ++ ls) ≡ commit_by plan ∷ kept_after plan (old.commits + 1)) × IsTallied plan old new (ks ++ ls)
  commit_kept number old new ks ls is first second =
      let same : steps_of ls ≡ kept_after plan (old.commits + 1) = second.0 ∙ ap (kept_after plan) is in
      let rest : IsTallied plan new new ls = record {
        events_until_commit = λ reported e. e ∙ ap (λ (n : ℕ). plan.commit_every - n) (sym (second.1.reported reported));
        commits = (let none = second.1.commits in omega (arith, none));
        outstanding = sym (second.1.outstanding new.outstanding.items);
        budgets = sym (second.1.budgets new.budgets.items);
        budgeted = second.1.budgeted plan.batch new.budgets.items;
        handled = none_counted new.handled_per_node.items new.handled_per_node.items ls refl second.1.handled;
      } in
      (steps_more ks ls ∙ ap₂ (λ (a b : List Step). a ++ b) first.0 same, tallied_more old new new ks ls first.1 rest)

module _ (round : Round) where
  pub round_shape : (reported : ℕ) (old begun asked : Tally) (ks ls : List Made) → begun.floor ≡ round.end → begun.commits ≡ old.commits → begun.outstanding.items ≡ old.outstanding.items → asked.commits ≡ begun.commits
      → Tallied round.plan (AreAsked round.plan.schedule round begun.outstanding.items) begun asked ks → steps_of ls ≡ closing_of round (reported_since reported ks) asked.floor asked.commits
      → IsRound round reported old.commits old.outstanding.items (ks ++ ls)
  round_shape reported old begun asked ks ls floor commits outstanding same first second =
      let least : asked.floor ≡ least_answered round.end old.outstanding.items ks = first.floor ∙ ap₂ (λ (n : ℕ) (o : List (Option ℕ)). least_answered n o ks) floor outstanding in
      let closing : steps_of ls ≡ closing_of round (reported_since reported ks) (least_answered round.end old.outstanding.items ks) old.commits =
      second ∙ ap₂ (λ (f n : ℕ). closing_of round (reported_since reported ks) f n) least (same ∙ commits) in
      (ks, ls, subst (λ (o : List (Option ℕ)). AreAsked round.plan.schedule round o ks) outstanding first.shape, closing, refl)

  -- all nodes are asked, and then the round ends
  pub round_made : (reported : ℕ) (old begun asked closed : Tally) (ks ls : List Made) → begun.floor ≡ round.end → begun.events_until_commit ≡ old.events_until_commit → begun.commits ≡ old.commits → begun.outstanding.items ≡ old.outstanding.items → begun.budgets.items ≡ old.budgets.items → begun.handled_per_node.items ≡ old.handled_per_node.items → asked.commits ≡ begun.commits
      → Tallied round.plan (AreAsked round.plan.schedule round begun.outstanding.items) begun asked ks → (steps_of ls ≡ closing_of round (reported_since reported ks) asked.floor asked.commits) × IsTallied round.plan asked closed ls
      → IsRound round reported old.commits old.outstanding.items (ks ++ ls) × IsTallied round.plan old closed (ks ++ ls)
  round_made reported old begun asked closed ks ls floor events_until_commit commits outstanding budgets handled same first second =
      let start : IsTallied round.plan old begun [] = record { events_until_commit = λ t is. events_until_commit ∙ is; commits = omega (arith, commits); outstanding = outstanding; budgets = budgets; budgeted = tt; handled = none_counted old.handled_per_node.items begun.handled_per_node.items [] handled (λ node. refl) } in
      (round_shape reported old begun asked ks ls floor commits outstanding same first second.0, tallied_more round.plan old begun closed [] (ks ++ ls) start (tallied_more round.plan begun asked closed ks ls first.tally second.1))

-- one more round
pub round_more : (plan : Plan) (end last rounds : ℕ) (old new : Tally) (ks ls : List Made) → AreRounds plan end last rounds ks × IsTallyOf plan old ks → IsRound (round_after plan end last rounds) (reported_since 0 ks) old.commits old.outstanding.items ls × IsTallied plan old new ls
    → AreRounds plan end last (rounds + 1) (ks ++ ls) × IsTallyOf plan new (ks ++ ls)
round_more plan end last rounds old new ks ls before round =
    let counted = before.1.commits in
    let more = round.1.commits in
    let all = commits_more ks ls in
    let first : List (Option ℕ) = replicate plan.nodes None in
    let begun : List NodeBudget = replicate plan.nodes first_budget in (
      one_round_more plan end last rounds ks ls before.0
          (subst (λ (o : List (Option ℕ)). IsRound (round_after plan end last rounds) (reported_since 0 ks) (commits_in ks) o ls) before.1.outstanding
          (subst (λ (n : ℕ). IsRound (round_after plan end last rounds) (reported_since 0 ks) n old.outstanding.items ls) counted round.0)),
      record {
        events_until_commit = round.1.events_until_commit (reported_since 0 ks) before.1.events_until_commit ∙ ap (λ (n : ℕ). plan.commit_every - n) (sym (reported_more 0 ks ls));
        commits = omega (arith, more, all, counted);
        outstanding = round.1.outstanding ∙ ap (λ (o : List (Option ℕ)). outstanding_after o ls) before.1.outstanding ∙ sym (outstanding_more first ks ls);
        budgets = round.1.budgets ∙ ap (λ (b : List NodeBudget). budgets_after b ls) before.1.budgets ∙ sym (budgets_more begun ks ls);
        budgeted = budgeted_more plan.batch begun ks ls before.1.budgeted (subst (λ (b : List NodeBudget). AreBudgeted plan.batch b ls) before.1.budgets round.1.budgeted);
        handled = λ node. round.1.handled node (handled_of node ks) (before.1.handled node) ∙ capped (handled_of node ks + handled_of node ls) (handled_of node (ks ++ ls)) (sym (handled_more node ks ls));
      },
    )

same_test : (a b c d : ℕ) → (a ≤ b → c ≤ d) → (c ≤ d → a ≤ b) → nat_le a b ≡ nat_le c d
same_test a b c d to from = elim (cases_Bool (nat_le a b)) [
  | inl e ↦ e ∙ sym (le-leb c d (to (leb-true a b e)))
  | inr e ↦ elim (cases_Bool (nat_le c d)) [
    | inl k ↦ (let yes = le-leb a b (from (leb-true c d k)) in absurd (cc))
    | inr k ↦ e ∙ sym k
  ]
]

-- a commit is due by the tally exactly if it is due by what was reported
pub due_so : (plan : Plan) (end : ℕ) (last : Bool) (reported floor events_until_commit missing : ℕ) → events_until_commit ≡ plan.commit_every - reported → missing ≡ (if last then plan.commit_every - 1 else 0)
    → (nat_le events_until_commit missing || nat_le end floor) ≡ (nat_le (events_due plan last) reported || nat_le end floor)
due_so plan end true reported floor events_until_commit missing is most =
    ap (λ (b : Bool). b || nat_le end floor) (same_test events_until_commit missing (min plan.commit_every 1) reported (λ h. omega (arith, h, is, most)) (λ h. omega (arith, h, is, most)))
due_so plan end false reported floor events_until_commit missing is most =
    ap (λ (b : Bool). b || nat_le end floor) (same_test events_until_commit missing plan.commit_every reported (λ h. omega (arith, h, is, most)) (λ h. omega (arith, h, is, most)))
