-- Turns and rounds, one after another.
use Rattle.std.proofs.Common.{◌≡◌, ◌+◌, ◌<◌, ◌^◌, ◌==◌, length, ℕ, zero, suc, Bool, List, [], ◌∷◌, ◌++◌, false, ap, ap₂, arith, inl, inr, refl, subst, sym, ◌∙◌}
use Rattle.std.proofs.lemmas.Bool.{cases_Bool, eqb-true}
use Rattle.std.proofs.lemmas.List.{map-append}
use Rattle.coordinator.specs.Steps.{move_of}
use Rattle.eventkey.specs.declared.Signed.{Signed}
use Rattle.gvt.specs.Moves.{Move}
use Rattle.gvt.specs.Moves.Move.{Post, Take}
use Rattle.std.specs.Prelude.{None, Option, Some, get_or, replicate}
use Rattle.runs.specs.Driver.{AreAsked, AreFirst, AreNext, ArePosts, AreRounds, AreTurns, IsBudget, IsNext, IsPost, IsPostIf, IsRound, IsTurn, Made, commits_in, goes_on, moves_of, outstanding_after, places_for, reported_since, round_after, takes_of}
use Rattle.runs.specs.declared.rounds.Plan.{Plan}
use Rattle.runs.specs.declared.rounds.Round.{Round}
use Rattle.runs.specs.declared.rounds.Schedule.TheVariants.{Overlapped, Together}

pub is_post : (plan : Plan) (node budget : ℕ) (picks : List ℕ) (k : Made) → move_of k.step ≡ Post node picks budget → (length k.transit < 2 ^ 32 → picks ≡ places_for plan.nodes node 0 k.transit) → IsBudget plan.batch budget → IsPost plan node (k ∷ [])
is_post plan node budget picks k is all allowed = record { post = k; picks = picks; budget = budget; only = refl; move_is = is; all = all; allowed = allowed }

pub all_picked : (nodes node : ℕ) (seen transit : List Signed) (posted picks : List ℕ) → seen ≡ transit → posted ≡ picks → (length seen < 2 ^ 32 → picks ≡ places_for nodes node 0 seen) → length transit < 2 ^ 32 → posted ≡ places_for nodes node 0 transit
all_picked nodes node seen transit posted picks same by all few = by ∙ subst (λ (t : List Signed). length t < 2 ^ 32 → picks ≡ places_for nodes node 0 t) same all few

pub post_then_take : (plan : Plan) (node : ℕ) (ks ls : List Made) → IsPost plan node ks → moves_of ls ≡ Take node ∷ [] → IsTurn plan node (ks ++ ls)
post_then_take plan node ks ls post take = (ks, ls, post, take, refl)

pub one_turn_more : (plan : Plan) (node : ℕ) (ks ls : List Made) → AreTurns plan node ks → IsTurn plan node ls → AreTurns plan (node + 1) (ks ++ ls)
one_turn_more plan node ks ls before turn =
    let next : node + 1 ≡ suc node = omega arith in
    subst (λ n. AreTurns plan n (ks ++ ls)) (sym next) (ks, ls, before, turn, refl)

pub one_post_more : (plan : Plan) (node : ℕ) (ks ls : List Made) → ArePosts plan node ks → IsPost plan node ls → ArePosts plan (node + 1) (ks ++ ls)
one_post_more plan node ks ls before post =
    let next : node + 1 ≡ suc node = omega arith in
    subst (λ n. ArePosts plan n (ks ++ ls)) (sym next) (ks, ls, before, post, refl)

pub one_take_more : (node : ℕ) (ks ls : List Made) → moves_of ks ≡ takes_of node → moves_of ls ≡ Take node ∷ [] → moves_of (ks ++ ls) ≡ takes_of (node + 1)
one_take_more node ks ls before take =
    let next : node + 1 ≡ suc node = omega arith in
    map-append (λ (k : Made). move_of k.step) ks ls ∙ (ap₂ (λ (a b : List Move). a ++ b) before take ∙ sym (ap takes_of next))

pub then_takes : (round : Round) (outstanding : List (Option ℕ)) (ks ls : List Made) → ArePosts round.plan round.plan.nodes ks → moves_of ls ≡ takes_of round.plan.nodes → AreAsked Together round outstanding (ks ++ ls)
then_takes round outstanding ks ls posts takes = (ks, ls, posts, takes, refl)

pub take_then_post : (round : Round) (node floor : ℕ) (ks ls : List Made) → moves_of ks ≡ Take node ∷ [] → IsPostIf (goes_on round floor) round.plan node ls → IsNext round node (Some floor) (ks ++ ls)
take_then_post round node floor ks ls take post = (ks, ls, take, post, refl)

pub one_next_more : (round : Round) (outstanding : List (Option ℕ)) (node : ℕ) (ks ls : List Made) → AreNext round outstanding node ks → IsNext round node (get_or (outstanding_after outstanding ks) node None) ls → AreNext round outstanding (node + 1) (ks ++ ls)
one_next_more round outstanding node ks ls before is =
    let next : node + 1 ≡ suc node = omega arith in
    subst (λ n. AreNext round outstanding n (ks ++ ls)) (sym next) (ks, ls, before, is, refl)

-- the same if these parcels are outstanding after the earlier steps
pub one_next_so : (round : Round) (outstanding now : List (Option ℕ)) (node : ℕ) (ks ls : List Made) → now ≡ outstanding_after outstanding ks → AreNext round outstanding node ks → IsNext round node (get_or now node None) ls → AreNext round outstanding (node + 1) (ks ++ ls)
one_next_so round outstanding now node ks ls same before is = one_next_more round outstanding node ks ls before (subst (λ (o : List (Option ℕ)). IsNext round node (get_or o node None) ls) same is)

pub first_then_next : (round : Round) (outstanding now : List (Option ℕ)) (ks ls : List Made) → now ≡ outstanding_after outstanding ks → AreFirst round.first round.plan ks → AreNext round now round.plan.nodes ls → AreAsked Overlapped round outstanding (ks ++ ls)
first_then_next round outstanding now ks ls same first next = (ks, ls, first, subst (λ (o : List (Option ℕ)). AreNext round o round.plan.nodes ls) same next, refl)

pub one_round_more : (plan : Plan) (end last rounds : ℕ) (ks ls : List Made) → AreRounds plan end last rounds ks → IsRound (round_after plan end last rounds) (reported_since 0 ks) (commits_in ks) (outstanding_after (replicate plan.nodes None) ks) ls → AreRounds plan end last (rounds + 1) (ks ++ ls)
one_round_more plan end last rounds ks ls before round =
    let next : rounds + 1 ≡ suc rounds = omega arith in
    subst (λ n. AreRounds plan end last n (ks ++ ls)) (sym next) (ks, ls, before, round, refl)

-- a round before the last one
not_last : (round last : ℕ) → round < last → (round == last) ≡ false
not_last round last l = elim (cases_Bool (round == last)) [
  | inl e ↦ (let same : round ≡ last = eqb-true round last e in absurd (omega (arith, same, l)))
  | inr e ↦ e
]

-- rounds before the last one are the same, whichever round that is
pub rounds_before : (plan : Plan) (end last other rounds : ℕ) (ks : List Made) → rounds < last → rounds < other → AreRounds plan end last rounds ks → AreRounds plan end other rounds ks
rounds_before plan end last other zero ks l k none = none
rounds_before plan end last other (suc rounds) ks l k is =
    let less : rounds < last = omega (arith, l) in
    let fewer : rounds < other = omega (arith, k) in
    let before : rounds + 1 < last = omega (arith, l) in
    let sooner : rounds + 1 < other = omega (arith, k) in
    let same : (rounds + 1 == last) ≡ (rounds + 1 == other) = not_last (rounds + 1) last before ∙ sym (not_last (rounds + 1) other sooner) in (
      is.0,
      is.1,
      rounds_before plan end last other rounds is.0 less fewer is.2,
      subst (λ (b : Bool). IsRound (record { plan = plan; end = end; first = rounds == 0; last = b }) (reported_since 0 is.0) (commits_in is.0) (outstanding_after (replicate plan.nodes None) is.0) is.1) same is.3,
      is.4,
    )
