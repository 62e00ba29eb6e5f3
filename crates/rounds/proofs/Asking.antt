-- One rule is asked in a round. Assumes nothing.
use Rattle.std.proofs.Common.{◌≡◌, ℕ, suc, ◌+◌, ◌-◌, ◌≤◌, ◌<◌, Bool, true, false, List, [], drop, length, Some, None, unwrap_or, ◌≢◌, sym, refl, ap, ◌∙◌, subst, ⊎_elim, arith, not}
use Rattle.std.specs.List.{slice_get}
use Rattle.std.specs.Option.{option_map}
use Rattle.std.proofs.Math.Path.{fun_ext}
use Rattle.std.proofs.lemmas.Bool.{both_ways, cases_lt, true_from_ne_false, and_from, and_parts}
use Rattle.rules.specs.Program.{Rule, Program, Lawful, LawfulRule, within}
use Rattle.rules.specs.Questions.{head_at, negative_part, positive_part, rule_at}
use Rattle.rules.specs.Stable.{Atoms, supports, supports_with}
use Rattle.rules.specs.Tests.{all, any}
use Rattle.rules.proofs.Parts.{OfRule, of_rule_at}
use Rattle.rules.proofs.Tests.{each_from_none, some_not_none, some_same, within_parts, all_grows}
use Rattle.tables.specs.Entries.{with_put}
use Rattle.tables.proofs.Entries.{entry_put_apart, entry_put_here}
use Rattle.rankings.specs.Laws.{Known}
use Rattle.rankings.specs.Rounds.{taken}
use Rattle.rankings.proofs.Numbers.{taken_by_round}
use Rattle.rankings.proofs.Supported.{supports_from, supports_parts, supports_with_from}
use Rattle.rankings.proofs.Rounds.{taken_in}
use Rattle.waiting.specs.Waiting.{key_added, waiting_under}
use Rattle.waiting.proofs.Counts.{no_more_once_added}
use Rattle.rounds.specs.Progress.{Begun, Progress, first_wait, rest_holds}
use Rattle.rounds.specs.Taking.{number_in, taken_before}
use Rattle.rounds.specs.declared.standing.Wait.{Wait}
use Rattle.rounds.proofs.Progress.{before_is_taken, key_apart, key_here, place_of, rule_done, rule_takes, rule_waits}
use Rattle.rounds.proofs.Tables.{number_here}
use Rattle.rounds.proofs.Waits.{Waits, all_from_at, at_from_all, slice_get-drop, wait_at, wait_none, wait_some}

-- what a rule that is there passes, some rule passes
pub any_from_rule : (test : Rule → Bool) (p : Program) (k : ℕ) (r : Rule) → rule_at p k ≡ Some r → test r ≡ true → any test p.rules ≡ true
any_from_rule test p k r there h =
    true_from_ne_false (any test p.rules)
    (λ none. both_ways (test r) (subst (OfRule (λ s. test s ≡ false)) there (of_rule_at (λ s. test s ≡ false) p k (each_from_none test p.rules none))) h)

module _ (p : Program) (set : Atoms) (known : Known p set) (lawful : Lawful p) (last round : ℕ) (next : round ≡ suc last) (waiting coming : ℕ → ℕ) (positions rounds : List ℕ) (now rule : ℕ) (is : Progress p set last now rule waiting coming (number_in positions) rounds) (low : 1 ≤ rule) (some : 1 ≤ now) where
  abbrev from : ℕ
  from = number_in positions rule

  begun : Begun p set last (number_in positions rule) now rule
  begun = is.asked_begun low

  part : positive_part p rule ≡ begun.rule.positive
  part = ap (λ r. unwrap_or (option_map (λ s. s.positive) r) []) begun.there

  its_law : LawfulRule p.atoms begun.rule
  its_law = subst (OfRule (LawfulRule p.atoms)) begun.there (of_rule_at (LawfulRule p.atoms) p rule lawful.each_lawful)

  known_at : (i a : ℕ) → slice_get begun.rule.positive i ≡ Some a → (1 ≤ a) × (a ≤ p.atoms)
  known_at i a at = within_parts p.atoms a (at_from_all (within p.atoms) begun.rule.positive its_law.positive_known i a at)

  -- the atom whose rules are asked was taken before, where it is an atom
  now_taken : now ≤ p.atoms → taken p set last now ≡ true
  now_taken known_now =
      ⊎_elim
      (λ first. absurd (omega (arith, first, known_now, lawful.atoms_bound)))
      (λ number. ⊎_elim
      (λ e. taken_by_round p set last last now (omega arith) (omega (arith, e, number.0)) (omega (arith, e, number.1)))
      (λ new. absurd (omega (arith, new.1, number.1)))
      (is.numbers now))
      (is.now_early some)

  taken_behind : (i a : ℕ) → i < from → slice_get begun.rule.positive i ≡ Some a → taken p set last a ≡ true
  taken_behind i a below at =
      ⊎_elim
      (λ t. t)
      (λ same. ap (taken p set last) same ∙ now_taken (omega (arith, same, (known_at i a at).1)))
      (begun.behind i a below at)

  earlier : taken_before rounds round ≡ taken p set last
  earlier = ap (taken_before rounds) next ∙ fun_ext (λ a. before_is_taken p set last rounds a (is.numbers a))

  few_rules : rule ≤ 16384
  few_rules = omega (arith, (place_of p rule begun.rule begun.there).1, lawful.rules_bound)

  -- what the search for the next atom found, in the rule's part
  searched : first_wait (taken_before rounds round) from (drop from (positive_part p rule)) ≡ first_wait (taken p set last) from (drop from begun.rule.positive)
  searched = ap (λ t. first_wait t from (drop from (positive_part p rule))) earlier ∙ ap (λ xs. first_wait (taken p set last) from (drop from xs)) part

  -- an atom at a position, from where the rule stands on
  later : (i a : ℕ) → from ≤ i → slice_get begun.rule.positive i ≡ Some a → slice_get (drop from begun.rule.positive) (i - from) ≡ Some a
  later i a after at = let place : from + (i - from) ≡ i = omega (arith, after) in slice_get-drop begun.rule.positive from (i - from) ∙ ap (slice_get begun.rule.positive) place ∙ at

  module _ (w : Wait) (found : first_wait (taken_before rounds round) from (drop from (positive_part p rule)) ≡ Some w) where
    waits : Waits (taken p set last) from (drop from begun.rule.positive) w
    waits = wait_some (taken p set last) from (drop from begun.rule.positive) w (sym searched ∙ found)

    here : slice_get begun.rule.positive w.position ≡ Some w.atom
    here = wait_at (taken p set last) begun.rule.positive from w (sym searched ∙ found)

    behind : (i b : ℕ) → i < w.position → slice_get begun.rule.positive i ≡ Some b → taken p set last b ≡ true
    behind i b below at =
        ⊎_elim
        (λ early. taken_behind i b early at)
        (λ after. waits.behind (i - from) b (omega (arith, below, after)) (later i b after at))
        (cases_lt i from)

    atom_known : (1 ≤ w.atom) × (w.atom ≤ p.atoms)
    atom_known = known_at w.position w.atom here

    not_now : w.atom ≢ now
    not_now same = both_ways (taken p set last w.atom) waits.fails (ap (taken p set last) same ∙ now_taken (omega (arith, same, atom_known.1)))

    module _ (after : ℕ → ℕ) (added : (other : ℕ) → after other ≡ key_added 16385 waiting rule w.atom other) (sized : length positions ≡ 16384) where
      put_here : number_in (with_put positions rule (w.position + 1)) rule ≡ w.position + 1
      put_here = number_here (with_put positions rule (w.position + 1)) rule (w.position + 1) (entry_put_here positions rule (w.position + 1) low (omega (arith, few_rules, sized)))

      put_apart : (other : ℕ) → other ≢ rule → number_in (with_put positions rule (w.position + 1)) other ≡ number_in positions other
      put_apart other apart = ap (λ o. unwrap_or o 0) (entry_put_apart positions rule (w.position + 1) other apart low)

      pub asked_waits : Progress p set last now 0 after coming (number_in (with_put positions rule (w.position + 1))) rounds × (waiting_under 16385 after now ≤ waiting_under 16385 waiting now)
      asked_waits = (
        rule_waits p set last (number_in positions) waiting coming rounds now rule begun.rule begun.there is w.position w.atom here waits.fails behind
            after (number_in (with_put positions rule (w.position + 1)))
            (key_here waiting after 16385 rule w.atom added low (omega (arith, few_rules)) atom_known.0 (omega (arith, atom_known.1, lawful.atoms_bound)) is.asked_free)
            (key_apart waiting after 16385 rule w.atom added)
            put_here put_apart,
        no_more_once_added 16385 waiting after rule now w.atom added not_now,
      )

  module _ (none : first_wait (taken_before rounds round) from (drop from (positive_part p rule)) ≡ None) where
    all_taken : all (taken p set last) begun.rule.positive ≡ true
    all_taken =
        let rest = wait_none (taken p set last) from (drop from begun.rule.positive) (sym searched ∙ none) in
        all_from_at (taken p set last) begun.rule.positive
        (λ i a at. ⊎_elim
        (λ early. taken_behind i a early at)
        (λ after. at_from_all (taken p set last) (drop from begun.rule.positive) rest (i - from) a (later i a after at))
        (cases_lt i from))

    head_is : (h : ℕ) → head_at p rule ≡ Some h → begun.rule.head ≡ h
    head_is h at = some_same (sym (ap (option_map (λ r. r.head)) begun.there) ∙ at)

    -- what is asked of the rest of the rule, said of the rule
    rest_of_rule : (h : ℕ) → head_at p rule ≡ Some h → rest_holds set h (negative_part p rule) ≡ rest_holds set begun.rule.head begun.rule.negative
    rest_of_rule h at = ap (λ a. rest_holds set a (negative_part p rule)) (sym (head_is h at)) ∙ ap (λ r. rest_holds set begun.rule.head (unwrap_or (option_map (λ s. s.negative) r) [])) begun.there

    all_in : all set begun.rule.positive ≡ true
    all_in = all_grows (taken p set last) set (taken_in p set last) begun.rule.positive all_taken

    -- the rule supports its head exactly where the rest of it holds
    supports_by_rest : rest_holds set begun.rule.head begun.rule.negative ≡ true → supports set begun.rule.head begun.rule ≡ true
    supports_by_rest h =
        let parts = and_parts (set begun.rule.head) (not (any set begun.rule.negative)) h in
        supports_from set begun.rule.head begun.rule refl parts.0 (and_from (all set begun.rule.positive) (not (any set begun.rule.negative)) all_in parts.1)

    rest_by_supports : supports set begun.rule.head begun.rule ≡ true → rest_holds set begun.rule.head begun.rule.negative ≡ true
    rest_by_supports h =
        let parts = supports_parts set begun.rule.head begun.rule h in
        and_from (set begun.rule.head) (not (any set begun.rule.negative)) parts.1 (and_parts (all set begun.rule.positive) (not (any set begun.rule.negative)) parts.2).1

    module _ (supporting : supports set begun.rule.head begun.rule ≡ true) where
      takes : taken p set (suc last) begun.rule.head ≡ true
      takes = any_from_rule (supports_with (taken p set last) set begun.rule.head) p rule begun.rule begun.there (supports_with_from set begun.rule.head begun.rule (taken p set last) supporting all_taken)

      head_known : (1 ≤ begun.rule.head) × (begun.rule.head ≤ p.atoms)
      head_known = within_parts p.atoms begun.rule.head (known begun.rule.head (supports_parts set begun.rule.head begun.rule supporting).1)

    module _ (h : ℕ) (at : head_at p rule ≡ Some h) where
      pub asked_takes : number_in rounds h ≡ 0 → rest_holds set h (negative_part p rule) ≡ true → round ≤ p.atoms → (after : ℕ → ℕ) → ((other : ℕ) → after other ≡ key_added 4098 coming h (round + 1) other) → Progress p set last now 0 waiting after (number_in positions) (with_put rounds h round)
      asked_takes fresh rest high after added =
          let same = head_is h at in
          let due : suc (suc last) ≡ round + 1 = omega (arith, next) in
          let supporting = supports_by_rest (sym (rest_of_rule h at) ∙ rest) in
          subst (λ xs. Progress p set last now 0 waiting after (number_in positions) xs) (ap (λ a. with_put rounds a (suc last)) same ∙ ap (with_put rounds h) (sym next))
          (rule_takes p set last (number_in positions) waiting coming rounds now rule begun.rule begun.there is
          (ap (number_in rounds) same ∙ fresh) (takes supporting) (head_known supporting).0 (head_known supporting).1 lawful.atoms_bound (omega (arith, next, high)) after
          (λ other. added other ∙ ap (λ a. key_added 4098 coming a (round + 1) other) (sym same) ∙ ap (λ key. key_added 4098 coming begun.rule.head key other) (sym due)))

      -- the head is taken already
      pub asked_done : number_in rounds h ≢ 0 → Progress p set last now 0 waiting coming (number_in positions) rounds
      asked_done done = rule_done p set last (number_in positions) waiting coming rounds now rule begun.rule begun.there is (λ supporting zero. done (ap (number_in rounds) (sym (head_is h at)) ∙ zero))

      -- the rule does not support it
      pub asked_idle : rest_holds set h (negative_part p rule) ≡ false → Progress p set last now 0 waiting coming (number_in positions) rounds
      asked_idle out = rule_done p set last (number_in positions) waiting coming rounds now rule begun.rule begun.there is (λ supporting zero. both_ways (rest_holds set h (negative_part p rule)) out (rest_of_rule h at ∙ rest_by_supports supporting))

  pub head_there : head_at p rule ≡ None → ⊥
  head_there none = some_not_none (sym (ap (option_map (λ r. r.head)) begun.there) ∙ none)
