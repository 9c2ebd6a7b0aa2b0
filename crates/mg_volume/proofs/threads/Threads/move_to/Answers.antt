use Rattle.{mg_model.specs.{Ranges.IsThreadRow, State.ThreadRow}, mg_volume.proofs.{ByNumber.{few_are, put_is, thread_at}, ThreadSearch.put_listed}}
use Rattle.{mg_volume.specs.{Numbered.{is_taken, rows_with, turn_mark}, Standing.stands_at}, std.proofs.Common.{List, Option, Some, None, ℕ, ◌≡◌}}
use Rattle.std.proofs.{Common.{◌<◌, ◌-◌, ◌∙◌, ◌==◌, ap, arith, find, length, subst, sym}, lemmas.List.{get_or-set_same, get_or_default}}
use Rattle.std.specs.{Option.{ForSome, option_map}, Prelude.{is_some, slice_set}}
use Rattle.mg_volume.proofs.threads.Threads.move_to.Goals as goal

within : (c : goal.After-self-3-1) → c.args.number - 1 < length c.self.inside.rows.items
within c =
    let some = c.requires.t_at_least_1 in
    let few = c.requires.t_at_most_256 in
    let long = c.self.invariant.by_number.long in
    omega arith

there : (c : goal.After-self-3-1) → c.index-2.result.now ≡ c.move_row.new.row
there c = c.index-2.ensures ∙ get_or-set_same c.self.inside.rows.items (c.args.number - 1) c.move_row.new.row c.index-2.result.now (within c)

kept : (c : goal.After-self-3-1) → ForSome c.move_row.new.row IsThreadRow
kept c = subst (λ (row : Option ThreadRow). ForSome row IsThreadRow) (there c) c.turn_mark.ensures.kept

pub invariant_of-self : goal.invariant_of-self
invariant_of-self c =
    let rows = c.self.inside.rows.items in
    let k = c.args.number - 1 in
    let new = c.move_row.new.row in
    let taken : c.is_some.result ≡ is_taken new = c.is_some.ensures ∙ ap is_some (c.index.ensures ∙ get_or-set_same rows k new c.index.result.now (within c)) in
    let turn : c.turn_mark.result ≡ turn_mark new = c.turn_mark.ensures.value ∙ ap turn_mark (there c) in
    put_listed rows c.self.inside.taken.items c.self.inside.ready.items k new c.is_some.result c.turn_mark.result (kept c) taken turn c.self.invariant

-- the row that was there
was : (c : goal.After-self-3-1) (row : ThreadRow) → option_map (λ (x : ℕ × ThreadRow). x.1) (find (λ (x : ℕ × ThreadRow). x.0 == c.args.number) c.args.self.now) ≡ Some row → c.index_mut.result.now ≡ Some row
was c row found =
    let rows = c.self.inside.rows.items in
    c.index_mut.ensures.value
    ∙ get_or_default rows (c.args.number - 1) c.index_mut.result.now None (within c)
    ∙ sym (thread_at rows c.args.number c.requires.t_at_least_1)
    ∙ ap (λ (threads : List (ℕ × ThreadRow)). option_map (λ (x : ℕ × ThreadRow). x.1) (find (λ (x : ℕ × ThreadRow). x.0 == c.args.number) threads)) c.self.view_is
    ∙ found

is : (c : goal.After-self-3-1) (row : ThreadRow) → option_map (λ (x : ℕ × ThreadRow). x.1) (find (λ (x : ℕ × ThreadRow). x.0 == c.args.number) c.args.self.now) ≡ Some row → c.move_row.new.row ≡ Some (stands_at c.args.pc c.args.state c.args.regs.now row)
is c row found = c.move_row.ensures ∙ ap (option_map (stands_at c.args.pc c.args.state c.args.regs.now)) (was c row found)

pub returns-clause-stands : goal.returns-clause-stands
returns-clause-stands c row found =
    let few = within c in
    let some = c.requires.t_at_least_1 in
    put_is c.self.inside.rows.items c.args.number c.move_row.new.row some (omega arith)
    ∙ ap (rows_with c.args.number c.move_row.new.row) c.self.view_is
    ∙ ap (λ (o : Option ThreadRow). rows_with c.args.number o c.args.self.now) (is c row found)

pub returns-clause-kept : goal.returns-clause-kept
returns-clause-kept c row found = kept c (stands_at c.args.pc c.args.state c.args.regs.now row) (is c row found)

pub returns-clause-there : goal.returns-clause-there
returns-clause-there c row found =
    let rows = c.self.inside.rows.items in
    thread_at (slice_set rows (c.args.number - 1) c.move_row.new.row) c.args.number c.requires.t_at_least_1
    ∙ get_or-set_same rows (c.args.number - 1) c.move_row.new.row None (within c)
    ∙ is c row found

pub returns-clause-few : goal.returns-clause-few
returns-clause-few c = few_are (slice_set c.self.inside.rows.items (c.args.number - 1) c.move_row.new.row) (invariant_of-self c).by_number

pub index_mut-requires : goal.index_mut-requires
index_mut-requires c =
    let some = c.requires.t_at_least_1 in
    let few = c.requires.t_at_most_256 in
    let long = c.self.invariant.by_number.long in
    omega (arith, c.self.inside.rows.ok.0)
