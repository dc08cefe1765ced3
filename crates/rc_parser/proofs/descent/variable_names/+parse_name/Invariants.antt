use Rattle.rc_parser.proofs.descent.variable_names.+parse_name.Given as goal

abbrev pub decreases-parse_name : goal.decreases-parse_name
decreases-parse_name l = l.left
