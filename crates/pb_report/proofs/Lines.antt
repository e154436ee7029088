-- The lines of evidence, one after the other, and the instances that they name.
use Rattle.std.proofs.Common.{◌≡◌, ℕ, suc, ◌+◌, ◌<◌, Bool, false, List, [], ◌∷◌, ◌++◌, Option, None, refl, length, drop, get_or, map, sym, ap, ◌∙◌, subst, arith}
use Rattle.std.specs.Prelude.{Contains}
use Rattle.std.proofs.lemmas.Grind.{get_or_after_one}
use Rattle.std.proofs.lemmas.List.{drop-drop, drop_more, get_or-drop, get_or-map, length-map}
use Rattle.pb_text_tree.specs.declared.place.Place.{Place}
use Rattle.pb_report.specs.InstanceName.{instance_name}
use Rattle.pb_game.specs.Adjacency.{row}
use Rattle.pb_fixpoint_trees.specs.Tree.{Tree}
use Rattle.pb_fixpoint_trees.specs.Equations.{total}
use Rattle.pb_sorts.specs.Layout.{count_of}
use Rattle.pb_bytecode.specs.Contents.{Contents}
use Rattle.pb_bytecode.specs.Meaning.{AreTrees, parameters, signature_of}
use Rattle.pb_bytecode.proofs.InstanceCounts.{count_is_total}
use Rattle.pb_game_of_trees.specs.Explored.{ModuleHasTrees}
use Rattle.pb_evidence.specs.declared.Evidence.{Evidence}
use Rattle.pb_evidence.specs.Evidence.{graph_of}
use Rattle.pb_evidence.proofs.Finding.{contains_at}
use Rattle.pb_report.specs.declared.module_evidence.Explanation.{Explanation}
use Rattle.pb_report.specs.Cuts.{is_cut}
use Rattle.pb_report.specs.CallPlaces.{AreCallPlaces, placed_names}
use Rattle.pb_report.specs.EvidenceText.{dependency_text, dependencies_text, evidence_line, evidence_lines, line_tail}
use Rattle.pb_report.specs.Report.{truth_line}
use Rattle.pb_report.specs.ModuleEvidence.{IsExplanation, module_evidence_text}
use Rattle.pb_report.specs.ModuleTexts.{IsTextOfTrees}
use Rattle.pb_report.specs.ModuleLines.{evidence_line_at, evidence_line_of, evidence_lines_of}

-- of the names from k on, the first one and the others
pub next_dependency : (name : ℕ → List ℕ) (ns : List ℕ) (ps : List (Option Place)) (k : ℕ) (place : Option Place) → k < length ns → place ≡ get_or ps k None →
    placed_names name (drop k ns) (drop k ps) ≡ dependency_text name (get_or ns k 0) place ++ placed_names name (drop (k + 1) ns) (drop (k + 1) ps)
next_dependency name ns ps k place l is =
    let here : get_or (drop k ps) 0 None ≡ get_or ps k None = get_or-drop k ps 0 None ∙ ap (λ (i : ℕ). get_or ps i None) (omega arith) in
    ap (λ (xs : List ℕ). placed_names name xs (drop k ps)) (drop_more ns k 0 l)
    ∙ (ap (λ (p : Option Place). dependency_text name (get_or ns k 0) p ++ placed_names name (drop (k + 1) ns) (drop 1 (drop k ps))) (here ∙ sym is)
    ∙ ap (λ (xs : List (Option Place)). dependency_text name (get_or ns k 0) place ++ placed_names name (drop (k + 1) ns) xs) (drop-drop 1 k ps))

-- names with the places of a list, where these are those of a function
pub placed_is : (name : ℕ → List ℕ) (place : ℕ → Option Place) (ns : List ℕ) (ps : List (Option Place))
    → ((j : ℕ) → j < length ns → get_or ps j None ≡ place (get_or ns j 0)) → placed_names name ns ps ≡ dependencies_text name place ns
placed_is name place [] ps are = refl
placed_is name place (n ∷ ns) ps are =
    let behind : (j : ℕ) → j < length ns → get_or (drop 1 ps) j None ≡ place (get_or ns j 0) =
    λ j l. get_or_after_one ps j None ∙ (ap (λ (i : ℕ). get_or ps i None) (omega arith) ∙ are (suc j) (omega arith)) in
    ap (λ (p : Option Place). dependency_text name n p ++ placed_names name ns (drop 1 ps)) (are 0 (omega arith))
    ∙ ap (λ (xs : List ℕ). dependency_text name n (place n) ++ xs) (placed_is name place ns (drop 1 ps) behind)

pub next_line : (m : Contents) (trees : ℕ → Tree) (place : ℕ → ℕ → Option Place) (e : Evidence) (ns : List ℕ) (k : ℕ) → k < length ns →
    evidence_lines_of m trees place e (drop k ns) ≡ evidence_line_of m trees place e (get_or ns k 0) ++ evidence_lines_of m trees place e (drop (k + 1) ns)
next_line m trees place e ns k l = ap (evidence_lines_of m trees place e) (drop_more ns k 0 l)

-- lines with the same marks of cuts
same_lines : (name : ℕ → List ℕ) (place : ℕ → ℕ → Option Place) (truth : Bool) (dependencies : ℕ → List ℕ) (f h : ℕ → Bool) (ns : List ℕ) → map f ns ≡ map h ns
    → evidence_lines name place truth dependencies f ns ≡ evidence_lines name place truth dependencies h ns
same_lines name place truth dependencies f h [] e = refl
same_lines name place truth dependencies f h (n ∷ ns) e =
    let here : f n ≡ h n = cc e in
    let behind : map f ns ≡ map h ns = cc e in
    ap (λ (b : Bool). evidence_line name (place n) truth n (dependencies n) b ++ evidence_lines name place truth dependencies f ns) here
    ∙ ap (λ (text : List ℕ). evidence_line name (place n) truth n (dependencies n) (h n) ++ text) (same_lines name place truth dependencies f h ns behind)

module _ (m : Contents) (have : ModuleHasTrees m) (x : Explanation) (is : IsExplanation m x) where
  abbrev e : Evidence
  e = x.evidence

  pub instance_below : (k : ℕ) → k < length e.instances.items → get_or e.instances.items k 0 < count_of (parameters m)
  instance_below k l =
      let all : count_of (parameters m) ≡ total (map signature_of m.equations) = count_is_total m in
      omega (arith, all, (is have.0 have.1).shown.graph.below (get_or e.instances.items k 0) (contains_at e.instances.items k l))

  pub row_at : (k : ℕ) → k < length e.instances.items → (graph_of e).dependencies (get_or e.instances.items k 0) ≡ row e.places.items e.dependencies.items k
  row_at k l = (is have.0 have.1).shown.each k l

  pub dependency_below : (k : ℕ) → k < length e.instances.items → (list : List ℕ) → list ≡ row e.places.items e.dependencies.items k →
      (j : ℕ) → j < length list → get_or list j 0 < count_of (parameters m)
  dependency_below k l list same j h =
      let shown = (is have.0 have.1).shown in
      let n = get_or e.instances.items k 0 in
      let all : count_of (parameters m) ≡ total (map signature_of m.equations) = count_is_total m in
      let x = get_or list j 0 in
      let rests = subst (λ (xs : List ℕ). Contains xs x) (same ∙ sym (row_at k l)) (contains_at list j h) in
      omega (arith, all, shown.graph.below x (shown.graph.closed n x (contains_at e.instances.items k l, rests)))

  -- the names behind the instance at k, with the places of the list from there on
  placed_at : (place : ℕ → ℕ → Option Place) (ps : List (Option Place)) → AreCallPlaces place e ps → (k : ℕ) → k < length e.instances.items
      → (list : List ℕ) → list ≡ row e.places.items e.dependencies.items k → (first : ℕ) → first ≡ get_or e.places.items k 0
      → placed_names (instance_name m) list (drop first ps)
      ≡ dependencies_text (instance_name m) (place (get_or e.instances.items k 0)) ((graph_of e).dependencies (get_or e.instances.items k 0))
  placed_at place ps are k l list same first is =
      let here : placed_names (instance_name m) (row e.places.items e.dependencies.items k) (drop (get_or e.places.items k 0) ps)
      ≡ dependencies_text (instance_name m) (place (get_or e.instances.items k 0)) (row e.places.items e.dependencies.items k) =
      placed_is (instance_name m) (place (get_or e.instances.items k 0)) (row e.places.items e.dependencies.items k) (drop (get_or e.places.items k 0) ps)
      (λ j h. get_or-drop (get_or e.places.items k 0) ps j None ∙ are k l j h) in
      ap (λ (xs : List ℕ). placed_names (instance_name m) xs (drop first ps)) same
      ∙ (ap (λ (i : ℕ). placed_names (instance_name m) (row e.places.items e.dependencies.items k) (drop i ps)) is
      ∙ (here ∙ ap (dependencies_text (instance_name m) (place (get_or e.instances.items k 0))) (sym (row_at k l))))

  pub cut_within : (k : ℕ) → k < length e.instances.items → k < length x.cuts.items
  cut_within k l = omega (arith, l, ap length (is have.0 have.1).cuts, length-map e.instances.items (is_cut have.0 e))

  cut_at : (trees : ℕ → Tree) → AreTrees m trees → (k : ℕ) → k < length e.instances.items →
      get_or x.cuts.items k false ≡ is_cut trees e (get_or e.instances.items k 0)
  cut_at trees are k l =
      ap (λ (cs : List Bool). get_or cs k false) (is trees are).cuts
      ∙ get_or-map (is_cut trees e) e.instances.items k 0 false l

  -- the line of the instance at k, from parts that are read
  pub line_is : (trees : ℕ → Tree) → AreTrees m trees → (place : ℕ → ℕ → Option Place) (ps : List (Option Place)) → AreCallPlaces place e ps → (k : ℕ) → k < length e.instances.items
      → (number first : ℕ) (list : List ℕ) (behind : List (Option Place)) (cut : Bool) → number ≡ get_or e.instances.items k 0 → list ≡ row e.places.items e.dependencies.items k
      → first ≡ get_or e.places.items k 0 → behind ≡ drop first ps → cut ≡ get_or x.cuts.items k false
      → instance_name m number ++ line_tail e.truth (placed_names (instance_name m) list behind) cut ≡ evidence_line_at m trees place e k
  line_is trees has place ps are k l number first list behind cut here rests from places cuts =
      let name = instance_name m in
      let n = get_or e.instances.items k 0 in
      let names = dependencies_text name (place n) ((graph_of e).dependencies n) in
      let placed = ap (placed_names name list) places ∙ placed_at place ps are k l list rests first from in
      ap (λ (i : ℕ). name i ++ line_tail e.truth (placed_names name list behind) cut) here
      ∙ (ap (λ (text : List ℕ). name n ++ line_tail e.truth text cut) placed ∙ ap (λ (b : Bool). name n ++ line_tail e.truth names b) (cuts ∙ cut_at trees has k l))

  -- the text is the same whichever trees the module's instances have
  pub one_text : (place : ℕ → ℕ → Option Place) → IsTextOfTrees m (λ trees. module_evidence_text m trees place e) (module_evidence_text m have.0 place e)
  one_text place t are =
      let s = have.0 in
      ap (λ (lines : List ℕ). truth_line e.truth ++ lines)
      (same_lines (instance_name m) place e.truth (graph_of e).dependencies (is_cut s e) (is_cut t e) e.instances.items (sym (is s have.1).cuts ∙ (is t are).cuts))
