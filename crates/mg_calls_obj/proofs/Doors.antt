-- What a call on an object keeps and costs, after one search.
use Rattle.{mg_access.specs.LineLemmas.{drops_line, limit_line, one_limit, thread_limit, thread_rules}, mg_calls_obj.specs.Door.{EndsBy, asked}}
use Rattle.{mg_calls_obj.specs.Door.{is_on_object, named}, mg_laws.specs.Costs.SearchesKeepRules, mg_model.specs.{Access.allowed, Accesses.Access}}
use Rattle.mg_model.specs.{Accesses.{accesses, line_words}, Backed.{KeepsBacked, by_via, ended_by_call}, FewSlots.IsRefusal, Kept.KeepsKeys}
use Rattle.mg_model.specs.{Kept.{KeepsLine, KeepsRules, Searches, Validates, access_limit, line_limit, searches_limit}, Keys.Key, ObjectCalls.row_at}
use Rattle.mg_model.specs.{Refused.Answer, State.{ObjectRow, State}, Step.{of_thread, step}, Threads.is_thread, Turn.thread_call, Warmth.disturbs}
use Rattle.mg_model.specs.{Warmth.{is_disturbing, is_ok}, declared.{calls.{Call.Call, Line.Line}, replies.Refusal.TheVariants.{Denied, NoThread}}}
use Rattle.mg_model.specs.declared.{replies.Reply.{Reply, TheVariants.No}, rights.Right.Right, seats.Seat.Seat}
use Rattle.{mg_vcache.specs.{SeatLemmas.{drops_backed, drops_none, same_backed}, Seats.{AllBacked, is_kept}}, std.proofs.Common.{refl, sym, ap}}
use Rattle.std.{proofs.Common.{arith, subst, ◌∙◌}, specs.Prelude.{◌≡◌, ◌≤◌, ◌+◌, ◌-◌, ◌&&◌, ℕ, Bool, true, false, List, [], ◌∷◌, if◌then◌else◌}}
use Rattle.std.specs.Prelude.{Option}
use Rattle.mg_model.specs.declared.calls.Call.TheVariants as call

-- the access that such a call makes
abbrev pub access_of : ℕ → Call → Access
access_of t made = record { thread = t; address = named made; right = asked made }

no_words : (v : Bool) → (let n : ℕ = if v then 0 else 0 in n) ≡ 0
no_words true = refl
no_words false = refl

pub record IsLine (state : State) (t : ℕ) (made : Call) : Type 0 where
  pub those : accesses state (record { thread = t; call = made }) ≡ (if is_thread state t then access_of t made ∷ [] else [])
  pub words : line_words state (record { thread = t; call = made }) ≡ 0
  pub answer : step state (record { thread = t; call = made }) ≡ of_thread state t (thread_call state t made)
  pub disturbing : disturbs state t made ≡ true

pub is-line : (made : Call) (state : State) (t : ℕ) → is_on_object made ≡ true → IsLine state t made
is-line (call.Delete b) state t on = record { those = refl; words = no_words (is_thread state t); answer = refl; disturbing = refl }
is-line (call.Pwadd b rights until) state t on = record { those = refl; words = no_words (is_thread state t); answer = refl; disturbing = refl }
is-line (call.Pwdel b password) state t on = record { those = refl; words = no_words (is_thread state t); answer = refl; disturbing = refl }
is-line (call.Entry b off) state t on = record { those = refl; words = no_words (is_thread state t); answer = refl; disturbing = refl }
is-line (call.Ext b clist password) state t on = record { those = refl; words = no_words (is_thread state t); answer = refl; disturbing = refl }
is-line (call.Recharge b account password) state t on = record { those = refl; words = no_words (is_thread state t); answer = refl; disturbing = refl }
is-line other state t on = cc

-- without the right it is denied
pub denied : (made : Call) (state : State) (t : ℕ) → is_on_object made ≡ true → allowed state t (named made) (asked made) ≡ false → thread_call state t made ≡ (state, No Denied)
denied (call.Delete b) state t on barred = rw barred refl
denied (call.Pwadd b rights until) state t on barred = rw barred refl
denied (call.Pwdel b password) state t on barred = rw barred refl
denied (call.Entry b off) state t on barred = rw barred refl
denied (call.Ext b clist password) state t on barred = rw barred refl
denied (call.Recharge b account password) state t on barred = rw barred refl
denied other state t on barred = cc

-- when it is refused it ends no seat
pub ends_none : (made : Call) (object : ObjectRow) (old new : List (Option Seat)) (reply : Reply) → EndsBy made object old new reply → is_ok reply ≡ false → new ≡ old
ends_none (call.Delete b) object old new reply ends ok = drops_none (by_via object.base) old new reply ends ok
ends_none (call.Pwdel b password) object old new reply ends ok = drops_none (by_via object.base) old new reply ends ok
ends_none other object old new reply ends ok = ends

-- each seat that is left is backed
pub ends_backed :
    (made : Call) (state new : State) (t : ℕ) (object : ObjectRow) (seats seats' : List (Option Seat)) (reply : Reply) → is_on_object made ≡ true → KeepsBacked (ended_by_call state t made) state new → row_at state (named made) ≡ object
    → EndsBy made object seats seats' reply → (IsRefusal reply → new ≡ state) → AllBacked state seats → AllBacked new seats'
ends_backed (call.Delete b) state new t object seats seats' reply on keeps at ends same all =
    drops_backed (by_via object.base) state new seats seats' reply (subst (λ (r : ObjectRow). KeepsBacked (by_via r.base) state new) at keeps) ends same all
ends_backed (call.Pwdel b password) state new t object seats seats' reply on keeps at ends same all =
    drops_backed (by_via object.base) state new seats seats' reply (subst (λ (r : ObjectRow). KeepsBacked (by_via r.base) state new) at keeps) ends same all
ends_backed (call.Pwadd b rights until) state new t object seats seats' reply on keeps at ends same all = same_backed state new seats seats' keeps ends all
ends_backed (call.Entry b off) state new t object seats seats' reply on keeps at ends same all = same_backed state new seats seats' keeps ends all
ends_backed (call.Ext b clist password) state new t object seats seats' reply on keeps at ends same all = same_backed state new seats seats' keeps ends all
ends_backed (call.Recharge b account password) state new t object seats seats' reply on keeps at ends same all = same_backed state new seats seats' keeps ends all
ends_backed other state new t object seats seats' reply on keeps at ends same all = cc

-- what is said of the address and the right that were given
pub at_door : (P : ℕ → Right → Type 0) (made : Call) (place : ℕ × Right) → place ≡ (named made, asked made) → P place.0 place.1 → P (named made) (asked made)
at_door P made place is holds = subst (λ (x : ℕ × Right). P x.0 x.1) is holds

module _ (state : State) (t : ℕ) (made : Call) (on : is_on_object made ≡ true) (keep : SearchesKeepRules Searches) where
  abbrev line : Line
  line = record { thread = t; call = made }

  -- the search that it makes, be it allowed or not
  pub door-rules : (kept kept' : Key → Bool) (steps steps' : ℕ) → Validates state (access_of t made) kept kept' (steps' - steps) → (is_thread state t ≡ false → (key : Key) → kept' key ≡ kept key) → (is_thread state t ≡ false → steps' ≡ steps)
      → KeepsRules state (accesses state (record { thread = t; call = made })) kept kept' (steps' - steps)
  door-rules kept kept' steps steps' valid same none =
      subst (λ those. KeepsRules state those kept kept' (steps' - steps)) (sym (is-line made state t on).those)
      (thread_rules state t (access_of t made ∷ []) kept kept' steps steps' keep (kept', steps' - steps, 0, omega arith, valid, ((λ key. refl), refl)) same none)

  pub door-limit : (kept : Key → Bool) (steps steps' : ℕ) → steps' ≤ steps + access_limit kept state (access_of t made) → (is_thread state t ≡ false → steps' ≡ steps) → steps' ≤ steps + line_limit kept state (record { thread = t; call = made })
  door-limit kept steps steps' few none =
      limit_line state line kept steps steps'
      (subst (λ those. steps' ≤ steps + searches_limit kept state those) (sym (is-line made state t on).those)
      (thread_limit state t (access_of t made ∷ []) kept steps steps' (one_limit state (access_of t made) kept (steps' - steps) (omega arith) keep) none))

  -- a line that is not denied
  pub door-done :
      (new : State) (reply : Reply) (object : ObjectRow) (kept : Key → Bool) (middle after : List (Option Seat)) (steps steps' : ℕ) → steps ≤ steps' → is_thread state t ≡ true → thread_call state t made ≡ (new, reply) → EndsBy made object middle after reply
      → KeepsRules state (accesses state (record { thread = t; call = made })) kept (λ key. is_kept middle key) (steps' - steps) → KeepsLine state (record { thread = t; call = made }) kept (λ key. is_kept after key) steps steps'
  door-done new reply object kept middle after steps steps' rose lives answer ends rules =
      let is = is-line made state t on in
      let own = is.words in
      drops_line state line kept (λ key. is_kept after key) steps steps' (steps' - steps) (λ quiet. quiet-keys (ok-none quiet)) rules.few (omega arith)
    where
      both : (a b : Bool) → b ≡ true → (a && b) ≡ false → a ≡ false
      both true true is fails = fails
      both true false is fails = cc
      both false b is fails = refl

      ok-none : is_disturbing state (record { thread = t; call = made }) ≡ false → is_ok reply ≡ false
      ok-none quiet =
          let is = is-line made state t on in
          let same : step state (record { thread = t; call = made }) ≡ (new, reply) = is.answer ∙ ap (λ v. if v then thread_call state t made else (state, No NoThread)) lives ∙ answer in
          both (is_ok reply) (disturbs state t made) is.disturbing (sym (ap (λ (a : Answer). is_ok a.1 && disturbs state t made) same) ∙ quiet)

      quiet-keys : is_ok reply ≡ false → KeepsKeys state (accesses state (record { thread = t; call = made })) kept (λ key. is_kept after key)
      quiet-keys no_ok = subst (λ s. KeepsKeys state (accesses state (record { thread = t; call = made })) kept (λ key. is_kept s key)) (sym (ends_none made object middle after reply ends no_ok)) rules.keys
