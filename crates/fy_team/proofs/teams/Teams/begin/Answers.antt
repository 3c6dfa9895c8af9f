use Rattle.std.proofs.Common.{◌≡◌, ◌<◌, ◌≤◌, ◌+◌, ◌*◌, ◌++◌, ◌∷◌, [], length, set, refl, ap, sym, subst, ◌∙◌, arith}
use Rattle.std.specs.Prelude.{Option, Some, None}
use Rattle.std.proofs.lemmas.List.{length-map, set-get_or}
use Rattle.fy_team.specs.Teams.{Roster, Team, Record, begin_refusal}
use Rattle.fy_team.specs.Index.{TeamsKept}
use Rattle.fy_team.specs.declared.blocks.TheConstants.{BLOCK}
use Rattle.fy_team.specs.declared.fault.TeamFault.{TeamFault}
use Rattle.fy_team.proofs.Keeping.{held, may_be_begun, counted_for, TeamsInvariant-begun}
use Rattle.fy_team.proofs.Kept.{TeamsKept-opened, TeamsKept-begun}
use Rattle.fy_team.proofs.teams.Teams.begin.Goals as goal

pub invariant_of-self-in_err-open_block : goal.invariant_of-self-in_err-open_block
invariant_of-self-in_err-open_block c =
    record {
      member_sets = c.self.invariant.member_sets;
      kept = subst (λ records. TeamsKept c.self.inside.teams.items records c.self.inside.numbers.items c.open_block.new.marked.items) (sym c.reserve.ensures.items)
          (subst (λ marked. TeamsKept c.self.inside.teams.items c.self.inside.records.items c.self.inside.numbers.items marked) (sym c.in_err-open_block.ensures.err) c.self.invariant.kept);
    }

pub invariant_of-self-in_err-add : goal.invariant_of-self-in_err-add
invariant_of-self-in_err-add c =
    let inside = c.self.inside in
    let before : BLOCK * length inside.marked.items ≤ c.len-number.result + BLOCK = omega (arith, c.self.invariant.kept.blocks.few, length-map inside.records.items held, inside.records.ok.0) in
    let within : c.len-number.result ≤ BLOCK * length inside.marked.items = omega (arith, c.self.invariant.kept.blocks.room, length-map inside.records.items held, inside.records.ok.0) in
    let few : BLOCK * length c.open_block.new.marked.items ≤ length inside.records.items + BLOCK = omega (arith, c.in_ok-open_block.ensures.few before, inside.records.ok.0) in
    let room : length inside.records.items ≤ BLOCK * length c.open_block.new.marked.items = omega (arith, c.in_ok-open_block.ensures.room within, inside.records.ok.0) in
    record {
      member_sets = c.self.invariant.member_sets;
      kept = subst (λ records. TeamsKept inside.teams.items records (set inside.numbers.items c.args.team c.add.new.self) c.open_block.new.marked.items) (sym c.reserve.ensures.items)
          (subst (λ numbers. TeamsKept inside.teams.items inside.records.items numbers c.open_block.new.marked.items)
          (sym (ap (set inside.numbers.items c.args.team) (c.in_err-add.ensures.err ∙ c.index_mut.ensures.value) ∙ set-get_or inside.numbers.items c.args.team c.index_mut.result.now))
          (TeamsKept-opened inside.teams.items inside.records.items inside.numbers.items inside.marked.items c.open_block.new.marked.items few room c.in_ok-open_block.ensures.same c.self.invariant.kept));
    }

pub invariant_of-self-2 : goal.invariant_of-self-2
invariant_of-self-2 c =
    let inside = c.self.inside in
    let x = c.make.result in
    let none : begin_refusal c.args.self.now c.args.team c.args.payload ≡ None = go (begin_refusal c.args.self.now c.args.team c.args.payload) refl in
    let may = may_be_begun c.args.self.now c.args.team c.args.payload none in
    let lt : c.args.team < length inside.teams.items = omega (arith, may.0, ap (λ (it : Roster). length it.teams) c.self.view_is) in
    let same : x.held.team ≡ c.args.team = ap (λ (it : Record). it.team) c.make.ensures.held in
    let number : c.len-number.result ≡ length inside.records.items = omega (arith, inside.records.ok.0) in
    let before : BLOCK * length inside.marked.items ≤ c.len-number.result + BLOCK = omega (arith, c.self.invariant.kept.blocks.few, length-map inside.records.items held, number) in
    let within : c.len-number.result ≤ BLOCK * length inside.marked.items = omega (arith, c.self.invariant.kept.blocks.room, length-map inside.records.items held, number) in
    let few : BLOCK * length c.open_block.new.marked.items ≤ length inside.records.items + BLOCK = omega (arith, c.in_ok-open_block.ensures.few before, number) in
    let room : length inside.records.items < BLOCK * length c.open_block.new.marked.items = omega (arith, c.in_ok-open_block.ensures.room within, number) in
    record {
      member_sets = c.self.invariant.member_sets;
      kept = subst (λ records. TeamsKept inside.teams.items records (set inside.numbers.items c.args.team c.add.new.self) c.open_block.new.marked.items) (sym (c.push_reserved.ensures.items ∙ ap (λ records. records ++ x ∷ []) c.reserve.ensures.items))
          (subst (λ numbers. TeamsKept inside.teams.items (inside.records.items ++ x ∷ []) numbers c.open_block.new.marked.items)
          (ap (set inside.numbers.items c.args.team) (sym (c.in_ok-add.ensures.added ∙ ap (λ n. c.index_mut.result.now ++ n ∷ []) number)))
          (TeamsKept-begun inside.teams.items inside.records.items inside.numbers.items c.open_block.new.marked.items x c.args.team c.args.payload c.index_mut.result.now c.make.ensures.held lt room c.index_mut.ensures.value
          (TeamsInvariant-begun inside.teams.items inside.records.items x (omega arith) (omega (arith, may.1, ap (λ (it : Record). length it.payload) c.make.ensures.held)) (omega (arith, may.2, ap (λ (it : Roster). length it.records) c.self.view_is, length-map inside.records.items held))
          (counted_for inside.teams.items x c.args.team c.index.result.now c.behind-self.inside.members lt (sym same) c.index.ensures (ap (λ (it : Team). it.members) c.behind-self.view_is) c.make.ensures.counted)
          c.self.invariant.kept.counts)
          (TeamsKept-opened inside.teams.items inside.records.items inside.numbers.items inside.marked.items c.open_block.new.marked.items few (omega arith) c.in_ok-open_block.ensures.same c.self.invariant.kept)));
    }
  where
    go : (found : Option TeamFault) → begin_refusal c.args.self.now c.args.team c.args.payload ≡ found → found ≡ None
    go None is = refl
    go (Some fault) is = absurd (let e = c.in_ok-may_begin.ensures.refused fault is in let y : ⊥ = cc in y)
