-- Sums of terms and products of factors are groups.
use Rattle.std.proofs.Common.{◌≡◌, ◌≤◌, Bool, true, false, cond, List, ◌∷◌, ◌++◌, Option, Some, None, refl, sym, ap, subst}
use Rattle.std.specs.Prelude.{if◌then◌else◌}
use Rattle.body_lang.specs.declared.op.Op.{Op}
use Rattle.utopist_lexer.specs.declared.mark.Mark.{Mark}
use Rattle.utopist_lexer.specs.declared.token.Kind.TheVariants as kinds
use Rattle.utopist_parser.specs.declared.breadth.Breadth.{Breadth}
use Rattle.utopist_parser.specs.declared.breadth.Breadth.TheVariants as breadth
use Rattle.token_forms.specs.Symbols.{Symbol, mark}
use Rattle.token_forms.specs.steps.Steps.{meets}
use Rattle.token_forms.specs.steps.Single.{is_mark}
use Rattle.utopist_parser.specs.Written.{Sign, plus, minus, Scale, times, over, Chain, one_term, add, Term, one_factor, mul, Factor, literal}
use Rattle.utopist_parser.specs.ExprSymbols.{sign_mark, scale_mark, spell_chain, spell_term, spell_factor}
use Rattle.utopist_parser.specs.ExprTree.{sign_op, scale_op}
use Rattle.utopist_parser.specs.Arithmetic.{IsArith, IsArithTerm, IsArithFactor}
use Rattle.utopist_parser.specs.steps.ReadingExpr.{Nested, sign_of, scale_of, op_over}
use Rattle.token_forms.proofs.SameKind.{some_same}
use Rattle.token_forms.proofs.Singles.{fixed_is}
use Rattle.utopist_parser.proofs.ExprFacts.{seen_factor, seen_term, seen_chain, term_nest, chain_nest, InBreadth, FactorStops, LastFactor, TermStops, LastTerm, last_factor_stops, last_term_stops}
use Rattle.utopist_parser.proofs.Groups.{Grouping}

-- ---- what is arithmetic

pub within : (b : Breadth) (T : Type 0) → T → InBreadth b T
within breadth.All T t = tt
within breadth.Arithmetic T t = t

pub both_within : (b : Breadth) (T U : Type 0) → InBreadth b T → InBreadth b U → InBreadth b (T × U)
both_within breadth.All T U t u = tt
both_within breadth.Arithmetic T U t u = (t, u)

pub each_within : (b : Breadth) (T U : Type 0) → InBreadth b (T × U) → InBreadth b T × InBreadth b U
each_within breadth.All T U h = (tt, tt)
each_within breadth.Arithmetic T U h = h

-- ---- a level, whose groups have such parts

-- what is said of a part or a group: its symbols, its tree with its nesting, that it is arithmetic, and what stops it
record Said : Type 1 where
  pub symbols : List Symbol
  pub seen : Nested
  pub Arith : Type 0
  pub Stops : Option Symbol → Type 0

abbrev said : {X : Type 0} → (X → List Symbol) → (X → Nested) → (X → Type 0) → (X → Option Symbol → Type 0) → X → Said
said spell see Arith Stops x = record { symbols = spell x; seen = see x; Arith = Arith x; Stops = Stops x }

-- a group, an operator and a further part
abbrev joined : Said → Symbol → Op → Said → Said
joined a c p x = record { symbols = a.symbols ++ (c ∷ x.symbols); seen = op_over p a.seen x.seen; Arith = a.Arith × x.Arith; Stops = x.Stops }

-- two operators
module _ {O : Type 0} (as_mark : O → Mark) (as_op : O → Op) (s t : O) where
  abbrev operator : Option Symbol → Option Op
  operator o = if meets (is_mark (as_mark s)) o then Some (as_op s) else (if meets (is_mark (as_mark t)) o then Some (as_op t) else None)

  pub finds : (c : Symbol) (p : Op) → operator (Some c) ≡ Some p → (o : O) × (c ≡ mark (as_mark o)) × (as_op o ≡ p)
  finds c p e = go (is_mark (as_mark s) c) refl (is_mark (as_mark t) c) refl e where
    go : (i : Bool) → is_mark (as_mark s) c ≡ i → (j : Bool) → is_mark (as_mark t) c ≡ j → cond i (Some (as_op s)) (cond j (Some (as_op t)) None) ≡ Some p → (o : O) × (c ≡ mark (as_mark o)) × (as_op o ≡ p)
    go true a j b h = (s, fixed_is (kinds.Mark (as_mark s)) tt c a, some_same (as_op s) p h)
    go false a true b h = (t, fixed_is (kinds.Mark (as_mark t)) tt c b, some_same (as_op t) p h)
    go false a false b h = absurd cc

  -- what is said of groups agrees with how they are made of parts
  module _ {S A : Type 0} (found : (o : O) → operator (Some (mark (as_mark o))) ≡ Some (as_op o)) (part : S → Said) (group : A → Said) (one : S → A) (join : A → O → S → A)
      (is_one : (x : S) → group (one x) ≡ part x) (is_joined : (a : A) (o : O) (x : S) → group (join a o x) ≡ joined (group a) (mark (as_mark o)) (as_op o) (part x))
      (induct : (P : A → Type 0) → ((x : S) → P (one x)) → ((a : A) (o : O) (x : S) → P a → P (join a o x)) → (a : A) → P a)
      (stops : (a : A) (o : O) → (group a).Stops (Some (mark (as_mark o)))) (nest : (a : A) → 1 ≤ (group a).seen.1) (some : S) (arith : (part some).Arith) where
    abbrev grouping : Breadth → Grouping S A O
    grouping b = record {
      find = operator;
      sign = λ o. mark (as_mark o);
      op_of = as_op;
      found = found;
      nothing = refl;
      finds = finds;
      spell_part = λ x. (part x).symbols;
      see_part = λ x. (part x).seen;
      AllowedPart = λ x. InBreadth b (part x).Arith;
      PartStops = λ x. (part x).Stops;
      some_part = some;
      some_allowed = within b (part some).Arith arith;
      spell = λ a. (group a).symbols;
      see = λ a. (group a).seen;
      Allowed = λ a. InBreadth b (group a).Arith;
      LastStops = λ a. (group a).Stops;
      one = one;
      join = join;
      spell_one = λ x. ap (λ y. y.symbols) (is_one x);
      see_one = λ x. ap (λ y. y.seen) (is_one x);
      spell_join = λ a o x. ap (λ y. y.symbols) (is_joined a o x);
      see_join = λ a o x. ap (λ y. y.seen) (is_joined a o x);
      allow_one = λ x h. subst (λ y. InBreadth b y.Arith) (sym (is_one x)) h;
      one_allowed = λ x h. subst (λ y. InBreadth b y.Arith) (is_one x) h;
      allow_join = λ a o x h i. subst (λ y. InBreadth b y.Arith) (sym (is_joined a o x)) (both_within b (group a).Arith (part x).Arith h i);
      join_allowed = λ a o x h. each_within b (group a).Arith (part x).Arith (subst (λ y. InBreadth b y.Arith) (is_joined a o x) h);
      stops_one = λ x c h. subst (λ y. y.Stops c) (sym (is_one x)) h;
      one_stops = λ x c h. subst (λ y. y.Stops c) (is_one x) h;
      stops_join = λ a o x c h. subst (λ y. y.Stops c) (sym (is_joined a o x)) h;
      join_stops = λ a o x c h. subst (λ y. y.Stops c) (is_joined a o x) h;
      sign_stops = stops;
      some_nest = nest;
      induct = induct;
    }

-- ---- products

pub scale_found : (s : Scale) → scale_of (Some (mark (scale_mark s))) ≡ Some (scale_op s)
scale_found times = refl
scale_found over = refl

pub scale_stops : (t : Term) (s : Scale) → LastFactor t (Some (mark (scale_mark s)))
scale_stops t times = last_factor_stops t _ refl
scale_stops t over = last_factor_stops t _ refl

pub term_induct : (P : Term → Type 0) → ((f : Factor) → P (one_factor f)) → ((t : Term) (s : Scale) (f : Factor) → P t → P (mul t s f)) → (t : Term) → P t
term_induct P one more (one_factor f) = one f
term_induct P one more (mul t s f) = more t s f (term_induct P one more t)

abbrev pub scales : Breadth → Grouping Factor Term Scale
scales =
    grouping scale_mark scale_op times over scale_found (said spell_factor seen_factor IsArithFactor FactorStops) (said spell_term seen_term IsArithTerm LastFactor) one_factor mul (λ f. refl) (λ t s f. refl) term_induct
    scale_stops term_nest (literal 0) tt

-- ---- sums

pub sign_found : (s : Sign) → sign_of (Some (mark (sign_mark s))) ≡ Some (sign_op s)
sign_found plus = refl
sign_found minus = refl

pub sign_stops : (c : Chain) (s : Sign) → LastTerm c (Some (mark (sign_mark s)))
sign_stops c plus = last_term_stops c _ refl refl
sign_stops c minus = last_term_stops c _ refl refl

pub chain_induct : (P : Chain → Type 0) → ((t : Term) → P (one_term t)) → ((c : Chain) (s : Sign) (t : Term) → P c → P (add c s t)) → (c : Chain) → P c
chain_induct P one more (one_term t) = one t
chain_induct P one more (add c s t) = more c s t (chain_induct P one more c)

abbrev pub signs : Breadth → Grouping Term Chain Sign
signs =
    grouping sign_mark sign_op plus minus sign_found (said spell_term seen_term IsArithTerm TermStops) (said spell_chain seen_chain IsArith LastTerm) one_term add (λ t. refl) (λ c s t. refl) chain_induct
    sign_stops chain_nest (one_factor (literal 0)) tt
