-- A whole session, from the format to the last keep.
use Rattle.std.proofs.Common.{◌≡◌, ℕ, List, [], ◌++◌, map, sym, refl, ap, ◌∙◌, subst}
use Rattle.std.proofs.lemmas.List.{append-nil}
use Rattle.chip.specs.Pages.{Page}
use Rattle.readings.specs.Mount.{capacity}
use Rattle.rules.specs.Calls.{Call, keep_slip}
use Rattle.line.specs.Line.{Event}
use Rattle.line.specs.Law.{Lawful}
use Rattle.store.specs.Views.{View, capacity_of}
use Rattle.store.specs.Deeds.{Formatted}
use Rattle.history.proofs.Lawful.{lawful}
use Rattle.session.specs.declared.requests.Request.{Request}
use Rattle.session.specs.Requests.{calls_of}
use Rattle.session.specs.Sessions.{start, Ran}
use Rattle.session.specs.Stages.{Stage, Goes}

module _ (label : List ℕ) (requests : List Request) (u v w z : View) (calls : List Call) (late : List ℕ) (es fs hs : List Event) (ns ms : List ℕ) where
  pub last_stage : Formatted label u v → calls ≡ calls_of requests → es ≡ [] → ns ≡ [] → Goes calls es v ns fs w ms → Goes (map keep_slip late) fs w ms hs z [] → Stage label u.blocks (map keep_slip late ++ calls_of requests) hs z []
  last_stage formatted calls_are es-none ns-none goes keeps =
      let begin : Stage label u.blocks [] [] v [] = record {
        history = (u, formatted);
        followed = start;
        slips = refl;
        sound = λ _. formatted.sound;
        blocks_are = formatted.same_size.blocks;
      } in
      let first : Stage label u.blocks [] es v ns = subst (λ (e : List Event). Stage label u.blocks [] e v ns) (sym es-none) (subst (λ (n : List ℕ). Stage label u.blocks [] [] v n) (sym ns-none) begin) in
      let end = keeps label u.blocks (calls ++ []) (goes label u.blocks [] first) in
      subst (λ (cs : List Call). Stage label u.blocks (map keep_slip late ++ cs) hs z []) (append-nil calls ∙ calls_are) end

pub ran : (label : List ℕ) (requests : List Request) (z : View) (late : List ℕ) (es : List Event) (was blocks per : ℕ) (pages : List Page) → was ≡ blocks → z.per ≡ per → z.pages ≡ pages → Stage label was (map keep_slip late ++ calls_of requests) es z [] → Ran label requests es blocks per pages
ran label requests z late es was blocks per pages b-is per_is p-is st =
    let blocks_are = st.blocks_are ∙ b-is in
    let capacity-is : capacity_of z ≡ capacity blocks per = ap (λ b. capacity b z.per) blocks_are ∙ ap (capacity blocks) per_is in
    record {
      final = z;
      history = st.history;
      blocks_are = blocks_are;
      per_is = per_is;
      pages_are = p-is;
      conducted = record { late = late; followed = st.followed; none_left = sym st.slips };
      lawful = subst (λ (n : ℕ). Lawful n es) capacity-is (lawful label es z st.history);
    }
