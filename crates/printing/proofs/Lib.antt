mod HexLaws
